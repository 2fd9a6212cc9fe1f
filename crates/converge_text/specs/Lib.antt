pub mod Requests
pub mod Answers
pub mod Echoes
pub mod Listings
pub mod ConvergeRun
