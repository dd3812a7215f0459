pub mod Cutting
pub mod Values
