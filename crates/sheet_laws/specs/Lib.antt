pub mod Sheets
pub mod Coordinates
pub mod Brackets
pub mod Terms
pub mod Steps
