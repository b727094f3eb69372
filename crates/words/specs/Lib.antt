pub mod Words
pub mod Phrases
pub mod Names
pub mod Starts
pub mod Grouped
pub mod Values
pub mod Pieces
pub mod Rows
