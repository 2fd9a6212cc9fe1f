pub mod Places
pub mod Tidiness
pub mod Walk
pub mod Resting
pub mod Shown
