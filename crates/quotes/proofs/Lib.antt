pub mod Sides
pub mod Records
pub mod Accepted
pub mod Exact
