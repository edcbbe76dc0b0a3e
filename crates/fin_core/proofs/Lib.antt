pub mod Order
pub mod Holding
