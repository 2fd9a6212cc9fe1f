pub mod Versions
pub mod Logs
pub mod LogParts
pub mod Rules
