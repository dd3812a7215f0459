pub mod Products
pub mod Joined
pub mod Sums
pub mod Parts
pub mod Multiples
pub mod Expanded
pub mod StepByStep
pub mod OnlyLyndon
