pub mod Walk
pub mod Reasons
pub mod Laws
pub mod Origins
pub mod Numbers
pub mod Exact
