pub mod Plain
pub mod Inputs
pub mod Halts
pub mod Runs
pub mod Fitting
