pub mod Words
pub mod Lasts
pub mod Examined
pub mod Best
pub mod Found
pub mod Looked
pub mod Places
