pub mod Reasons
pub mod Priced
pub mod Blind
pub mod Exact
