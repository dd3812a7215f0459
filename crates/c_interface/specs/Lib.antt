pub mod Answers
pub mod Tables
pub mod Calls
