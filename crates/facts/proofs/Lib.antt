pub mod Numbers
pub mod Exact
