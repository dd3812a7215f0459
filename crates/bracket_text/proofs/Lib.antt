pub mod Parts
pub mod Outcomes
pub mod Turns
