pub mod Tagged
pub mod Made
pub mod Ended
pub mod Values
pub mod Numbers
pub mod Unused
