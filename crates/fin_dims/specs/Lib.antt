pub mod Classes
pub mod Start
pub mod Settled
pub mod Totality
