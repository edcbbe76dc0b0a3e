pub mod Plans
pub mod Lowered
