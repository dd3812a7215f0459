pub mod Sizes
pub mod Shown
mod Filled
