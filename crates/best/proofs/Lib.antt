pub mod Known
pub mod Sought
pub mod Said
pub mod Turns
pub mod Answers
pub mod Own
pub mod Exact
