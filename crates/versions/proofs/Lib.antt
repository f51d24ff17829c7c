pub mod Newer
pub mod Totals
pub mod Exact
pub mod Counting
pub mod Indices
pub mod Older
