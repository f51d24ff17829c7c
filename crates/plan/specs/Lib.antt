pub mod Plan
pub mod Closed
pub mod Occurs
pub mod Choosing
