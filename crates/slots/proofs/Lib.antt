pub mod Looking
pub mod Filling
