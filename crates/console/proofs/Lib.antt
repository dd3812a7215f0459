mod Fronts
pub mod Lines
pub mod Reports
