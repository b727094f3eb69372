pub mod Between
pub mod Number
pub mod Exact
