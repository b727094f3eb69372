pub mod Made
pub mod True
pub mod Row
pub mod Theory
pub mod Exact
