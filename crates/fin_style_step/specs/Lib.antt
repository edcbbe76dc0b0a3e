pub mod Limited
pub mod Steps
pub mod Laws
pub mod Parts
pub mod Splits
