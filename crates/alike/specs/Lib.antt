pub mod Words
pub mod Accepted
pub mod Tested
pub mod Cases
pub mod Sheets
