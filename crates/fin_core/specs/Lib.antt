pub mod Effects
pub mod Interleaving
pub mod Cores
pub mod Events
pub mod Laws
