pub mod Words
pub mod Counts
pub mod Ruling
pub mod Outcomes
pub mod Laws
pub mod Numbers
pub mod Origins
