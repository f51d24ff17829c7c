pub mod Lists
pub mod Each
pub mod Merge
pub mod Runs
