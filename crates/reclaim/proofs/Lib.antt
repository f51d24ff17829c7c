pub mod Choice
pub mod Answered
pub mod Promised
pub mod Numbers
pub mod Ends
