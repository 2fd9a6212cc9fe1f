pub mod Ending
pub mod Parts
pub mod Replies
pub mod Lines
pub mod Visible
pub mod Pieces
