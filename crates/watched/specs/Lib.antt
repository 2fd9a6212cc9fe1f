pub mod Limits
pub mod LineFeeds
pub mod Sending
pub mod Streams
pub mod Writing
