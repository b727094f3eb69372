pub mod Digits
pub mod Times
pub mod Dollars
pub mod Exact
