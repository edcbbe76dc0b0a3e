pub mod Chunks
pub mod Cores
pub mod Totals
