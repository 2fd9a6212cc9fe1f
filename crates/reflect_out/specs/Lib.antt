pub mod Advertising
pub mod Telling
