pub mod Words
pub mod Table
pub mod Amounts
pub mod Between
pub mod Sound
