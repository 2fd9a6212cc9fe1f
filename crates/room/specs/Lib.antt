pub mod Books
pub mod Closing
pub mod Jobs
pub mod Commits
pub mod Differences
