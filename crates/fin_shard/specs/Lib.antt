pub mod Shards
pub mod Steps
