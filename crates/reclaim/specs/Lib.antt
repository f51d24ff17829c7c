pub mod Reclaim
pub mod Promise
