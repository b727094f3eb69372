pub mod Ended
pub mod Demand1
pub mod Filled
pub mod Demand3
pub mod Laws
pub mod TwoKinds
pub mod Origins
