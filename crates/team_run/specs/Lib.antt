pub mod EngineerThreads
pub mod Playing
pub mod Screen
pub mod TeamRun
