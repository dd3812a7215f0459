pub mod Orders
pub mod Moves
