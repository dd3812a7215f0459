pub mod Runs
pub mod Law
pub mod Reached
