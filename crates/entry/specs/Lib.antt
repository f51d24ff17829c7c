pub mod States
pub mod Kinds
pub mod Fields
pub mod Ones
