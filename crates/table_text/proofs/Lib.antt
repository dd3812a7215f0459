pub mod Texts
pub mod Spelled
pub mod Putting
pub mod Listed
pub mod Lining
pub mod ReadTexts
