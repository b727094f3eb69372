pub mod Entries
pub mod Turns
pub mod Counts
pub mod Whole
pub mod Exact
