pub mod Tied
pub mod Steps
pub mod Joining
