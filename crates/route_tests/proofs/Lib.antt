pub mod Matches
pub mod Walks
