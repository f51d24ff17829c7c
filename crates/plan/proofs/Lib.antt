pub mod Chosen
pub mod Closed
pub mod Planned
pub mod Refused
