pub mod Counts
pub mod Entries
pub mod Laws
pub mod Nothing
pub mod Ranges
pub mod Runs
