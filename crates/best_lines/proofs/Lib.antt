pub mod NoLine
pub mod Lengths
pub mod Shown
pub mod Exact
