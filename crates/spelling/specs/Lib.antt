pub mod Words
pub mod Times
pub mod Dollars
