pub mod Ranges
pub mod Tests
pub mod Row
pub mod Numbers
pub mod Order
pub mod Exact
pub mod Found
