pub mod Parts
pub mod Near
pub mod Ordered
pub mod Passes
pub mod Fronts
pub mod Lengths
