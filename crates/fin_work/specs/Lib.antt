pub mod Gaps
pub mod Masks
pub mod Following
pub mod Changing
pub mod Sound
