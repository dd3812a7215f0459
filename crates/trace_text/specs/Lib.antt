pub mod Tokens
pub mod Traces
pub mod States
