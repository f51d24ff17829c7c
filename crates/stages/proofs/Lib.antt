pub mod Sequence
pub mod Listed
