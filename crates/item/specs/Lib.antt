pub mod Initialise
pub mod Mark
pub mod Copy
pub mod Erase
