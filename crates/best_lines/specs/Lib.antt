pub mod Words
pub mod BestLines
