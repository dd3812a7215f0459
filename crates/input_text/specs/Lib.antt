pub mod Shapes
pub mod Parts
pub mod Symbols
pub mod Words
