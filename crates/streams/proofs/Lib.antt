-- What holds of bytes that are read and written part by part.
pub mod Parts
pub mod Pieces
pub mod Whole
