pub mod FirstLine
pub mod Putting
pub mod Reading
pub mod Written
pub mod Letters
