pub mod Backing
pub mod Counts
pub mod Receiving
pub mod Shards
pub mod Waiting
