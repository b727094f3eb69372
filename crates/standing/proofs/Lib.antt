pub mod Turns
pub mod Answers
pub mod Lengths
pub mod Sums
pub mod Lasting
pub mod Exact
