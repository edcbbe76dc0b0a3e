pub mod States
pub mod Storages
pub mod Ends
pub mod Chunks
