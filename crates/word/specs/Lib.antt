pub mod Faults
pub mod Calls
pub mod Passing
