pub mod Placed
pub mod Decimal
pub mod Exact
