pub mod Begins
pub mod HandedOut
pub mod Passed
