pub mod Turns
pub mod Local
pub mod Filling
pub mod Copies
pub mod Move
pub mod Safe
pub mod Lengths
