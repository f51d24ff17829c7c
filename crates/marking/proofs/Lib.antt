pub mod Pairs
pub mod States
pub mod Spans
pub mod Turns
pub mod Ends
