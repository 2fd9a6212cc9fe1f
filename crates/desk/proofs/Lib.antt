pub mod Outlasting
pub mod WorkerThreads
pub mod Working
