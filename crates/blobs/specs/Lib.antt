pub mod Blobs
pub mod Runs
