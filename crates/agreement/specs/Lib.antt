pub mod Words
pub mod Agreed
