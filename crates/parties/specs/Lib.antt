pub mod Words
pub mod Parties
