pub mod Runs
pub mod Rank
