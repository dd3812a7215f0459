pub mod Words
pub mod Factoring
pub mod Runs
pub mod Codes
pub mod Listing
pub mod Entries
pub mod Theorems
