pub mod Acceptance
pub mod Rulings
pub mod Cases
pub mod Sheets
