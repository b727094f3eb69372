pub mod First
pub mod Cut
pub mod Laws
pub mod Order
pub mod Walk
pub mod Alike
pub mod Exact
