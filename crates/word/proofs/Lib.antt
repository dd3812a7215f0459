pub mod Passing
pub mod Starts
pub mod LastFactor
pub mod Foreign
