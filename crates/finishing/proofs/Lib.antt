pub mod Rounds
pub mod Lengths
