pub mod Counting
pub mod Masked
pub mod Words
pub mod Keys
pub mod Order
pub mod Pieces
