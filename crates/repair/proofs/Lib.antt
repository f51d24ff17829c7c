pub mod Counting
pub mod Repairing
