pub mod Products
pub mod Words
pub mod Calls
pub mod Faults
