mod AtCost
mod Beside
pub mod EntryLemmas
mod Filtering
mod GroupLeaders
mod GroupMap
mod GroupOrder
mod GroupPositions
mod Leading
mod Ranks
pub mod Sole
mod Scan
