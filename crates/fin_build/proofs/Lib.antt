pub mod Joining
pub mod Keeping
pub mod Parting
pub mod Rowing
pub mod Telling
pub mod Writing
