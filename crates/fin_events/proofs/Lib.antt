pub mod Asked
pub mod Running
pub mod Taking
