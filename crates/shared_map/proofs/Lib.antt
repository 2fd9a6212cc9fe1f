pub mod Halving
pub mod InOrder
pub mod Splits
pub mod EntryPlaces
