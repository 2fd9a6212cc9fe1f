pub mod Known
pub mod Matches
pub mod Traces
pub mod Originated
mod Onward
mod Peers
pub mod Ends
pub mod Entries
