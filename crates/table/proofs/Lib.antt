mod Sizes
mod Reports
mod Counted
