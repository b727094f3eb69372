pub mod Words
pub mod Theory
