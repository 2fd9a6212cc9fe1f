pub mod Positions
pub mod Chunks
pub mod EntryChunks
