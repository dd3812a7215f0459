pub mod Rings
pub mod Whole
pub mod Residues
pub mod Bits
