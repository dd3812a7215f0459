mod Decimals
mod Spelled
mod Parts
mod Awaiting
mod Shapes
mod Pairs
pub mod Outcomes
