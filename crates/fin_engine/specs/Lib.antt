pub mod Cut
pub mod Worded
pub mod Inputs
pub mod Numbers
pub mod Verdict
pub mod Run
pub mod Laws
