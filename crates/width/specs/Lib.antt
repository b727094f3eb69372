pub mod Words
pub mod Width
