mod Made
mod Searching
pub mod Growing
mod Finding
pub mod Found
mod Same
pub mod Shapes
pub mod Named
pub mod Lacking
