pub mod Rulings
pub mod Before
pub mod Recast
pub mod Tested
pub mod Sheets
