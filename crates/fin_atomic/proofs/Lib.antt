pub mod Fetches
pub mod Moves
