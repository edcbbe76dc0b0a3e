pub mod Filling
pub mod Freezing
pub mod Placing
pub mod Walking
