pub mod Reducing
pub mod Merges
