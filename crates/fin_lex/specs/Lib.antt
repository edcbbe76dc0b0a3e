pub mod Piece
pub mod Tokens
pub mod Laws
pub mod Vocabulary
