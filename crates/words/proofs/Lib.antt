pub mod Table
pub mod Cut
pub mod Rows
pub mod Lengths
pub mod Exact
pub mod Runs
