pub mod Words
pub mod Careful
