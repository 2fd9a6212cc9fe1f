pub mod AnyPreference
mod Comparing
mod Lists
pub mod MarkedNumbers
pub mod PathSplits
