pub mod Law
pub mod Outcome
