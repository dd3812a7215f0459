pub mod Faults
pub mod Held
pub mod Views
pub mod Calls
pub mod Runs
pub mod Seen
pub mod Search
