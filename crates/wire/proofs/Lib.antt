pub mod Numbers
pub mod Stored
pub mod Laid
pub mod Rows
pub mod Tests
pub mod Exact
