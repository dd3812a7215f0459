mod Sizes
mod Read
mod Written
mod Converted
mod Reports
