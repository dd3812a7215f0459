pub mod Bounds
mod Spelling
pub mod Passed
mod Cutting
mod Shifted
mod Scanning
mod Least
