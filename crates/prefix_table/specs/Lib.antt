pub mod Numbers
pub mod Places
pub mod Tables
pub mod Trie
pub mod Values
pub mod Ways
