pub mod Answered
pub mod Numbers
pub mod Promised
pub mod Fixed
pub mod Rows
pub mod Ends
