pub mod Faults
pub mod Outcome
