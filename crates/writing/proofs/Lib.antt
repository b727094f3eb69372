pub mod Written
pub mod Exact
