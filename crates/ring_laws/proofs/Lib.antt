pub mod Basics
pub mod Solve
pub mod Images
pub mod Residues
pub mod Bits
