mod Runs
mod Axes
mod Tracing
mod Steps
mod Turns
pub mod Outcomes
