mod Cuts
pub mod Exact
