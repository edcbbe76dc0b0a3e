pub mod Plans
pub mod Whole
