mod Forwarding
mod Lists
mod Matching
mod AcceptedQuestions
mod Routers
pub mod Accepted
pub mod Carried
pub mod Prepared
pub mod Answered
pub mod Refusals
pub mod Runs
pub mod Installed
pub mod Delivering
pub mod Feeding
