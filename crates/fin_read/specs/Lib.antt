pub mod Steps
pub mod Reads
pub mod Counts
pub mod Values
pub mod Sees
pub mod Means
