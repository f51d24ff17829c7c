pub mod Demand3
pub mod Cuts
pub mod General
pub mod Calls
pub mod Example
