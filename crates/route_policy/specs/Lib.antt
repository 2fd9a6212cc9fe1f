pub mod Repeats
pub mod Limits
pub mod Judging
pub mod Sameness
pub mod SameLaws
pub mod Faults
pub mod Marks
pub mod PathSplit
