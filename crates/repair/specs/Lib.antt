pub mod Counted
pub mod Repair
