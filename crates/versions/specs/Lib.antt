pub mod Versions
pub mod Search
