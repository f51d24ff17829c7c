pub mod Likeness
pub mod Makes
pub mod Leaves
pub mod Lengths
