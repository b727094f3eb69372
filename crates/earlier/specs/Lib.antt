pub mod Earlier
pub mod Held
