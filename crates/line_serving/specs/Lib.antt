pub mod Serving
pub mod Progress
pub mod Next
