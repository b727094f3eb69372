pub mod Rows
pub mod Sound
pub mod Error
pub mod Exact
