pub mod Finish
pub mod Alike
pub mod Rounds
