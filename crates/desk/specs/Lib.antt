pub mod Desks
pub mod WorkerThreads
