pub mod Xor
pub mod Linear
pub mod Pieces
pub mod Slicing
pub mod Places
