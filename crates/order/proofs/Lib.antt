pub mod Sums
pub mod Order
