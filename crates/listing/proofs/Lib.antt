pub mod Lines
pub mod Example
pub mod Room
pub mod Fixed
