pub mod Answer
pub mod Staged
pub mod Went
pub mod Told
