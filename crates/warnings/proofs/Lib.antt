pub mod Warned
pub mod Exact
