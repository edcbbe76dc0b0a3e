pub mod Asking
pub mod Trying
