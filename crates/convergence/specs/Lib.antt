pub mod Waiting
pub mod Deliveries
pub mod Places
pub mod Kept
