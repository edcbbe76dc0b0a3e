pub mod Steps
pub mod Laws
pub mod Parts
pub mod Splits
pub mod Changes
pub mod Statements
