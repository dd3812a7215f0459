pub mod Faults
pub mod Input
pub mod Pieces
pub mod Lines
pub mod Reading
pub mod Digits
pub mod Symbols
