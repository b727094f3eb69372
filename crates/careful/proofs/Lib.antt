pub mod Found
pub mod Laws
pub mod Record
pub mod Exact
