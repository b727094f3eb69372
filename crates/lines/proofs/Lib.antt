pub mod Joined
pub mod Lengths
pub mod Exact
