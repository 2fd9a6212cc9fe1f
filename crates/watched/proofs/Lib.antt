mod Appending
mod BufferLemmas
mod FirstByte
pub mod Lines
