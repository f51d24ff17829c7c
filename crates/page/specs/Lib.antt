pub mod State
pub mod Walk
pub mod Unread
pub mod Record
