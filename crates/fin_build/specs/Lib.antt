pub mod Builders
pub mod Entries
pub mod Merging
pub mod Parts
pub mod Shifts
