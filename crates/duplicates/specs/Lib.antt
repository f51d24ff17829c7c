pub mod Duplicates
pub mod Turns
pub mod Runs
