pub mod Home
pub mod Moves
pub mod ToCome
pub mod Reached
pub mod Laws
