pub mod Words
pub mod Stands
pub mod Spelled
