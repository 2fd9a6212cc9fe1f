pub mod Replaying
pub mod Exactness
pub mod ReplayRun
pub mod Reading
pub mod Progress
