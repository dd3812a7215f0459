pub mod Polynomials
pub mod Theorems
