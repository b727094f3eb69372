pub mod Spelled
pub mod Rows
pub mod Told
