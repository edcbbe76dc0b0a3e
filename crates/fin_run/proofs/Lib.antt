pub mod Reading
pub mod Loading
pub mod Steps
pub mod Clamping
pub mod Forgetting
pub mod Sizes
pub mod Running
