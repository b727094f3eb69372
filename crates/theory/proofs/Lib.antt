pub mod Prices
pub mod Origins
pub mod Exact
