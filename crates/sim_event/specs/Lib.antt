pub mod Events
pub mod Wording
