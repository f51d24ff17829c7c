pub mod Records
pub mod Scanned
pub mod Notes
