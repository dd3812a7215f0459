pub mod Holds
pub mod EveryCall
