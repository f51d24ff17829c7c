pub mod Calm
pub mod Crowded
