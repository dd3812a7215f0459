pub mod Brackets
pub mod Tokens
pub mod Words
pub mod States
