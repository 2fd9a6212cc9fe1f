pub mod Answers
pub mod Coding
pub mod Plans
pub mod Counting
pub mod Installing
