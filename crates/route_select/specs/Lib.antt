pub mod Selection
pub mod Laws
pub mod Leaders
pub mod Entries
pub mod Groups
pub mod AtCost
pub mod Coding
