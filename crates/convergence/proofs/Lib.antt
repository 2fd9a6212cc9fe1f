pub mod Reaching
pub mod Counting
pub mod Places
mod Snapshots
mod Quiet
mod InQueues
