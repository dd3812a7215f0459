pub mod Products
pub mod Steps
pub mod Rules
pub mod Leading
pub mod Parts
pub mod Theorems
