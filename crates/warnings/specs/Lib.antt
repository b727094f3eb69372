pub mod Words
pub mod Warned
