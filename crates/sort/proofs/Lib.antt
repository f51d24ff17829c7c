pub mod Aging
pub mod Copying
pub mod Weaving
pub mod Passing
pub mod Room
pub mod Growing
pub mod Ending
pub mod After
