pub mod Width
pub mod Exact
