pub mod Pooled
pub mod Hashing
