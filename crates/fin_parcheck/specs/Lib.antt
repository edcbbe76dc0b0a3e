pub mod Deeds
pub mod Loops
pub mod Walk
pub mod Ways
pub mod Safety
