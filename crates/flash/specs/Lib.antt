pub mod Step
pub mod Did
pub mod Words
pub mod Torn
