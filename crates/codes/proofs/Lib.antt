pub mod Codes
pub mod Exact
