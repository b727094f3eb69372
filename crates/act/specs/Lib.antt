pub mod Words
pub mod Minimum
pub mod Limits
pub mod Act
pub mod Numbers
pub mod Tested
