pub mod Lines
pub mod Turns
pub mod Lengths
pub mod Exact
