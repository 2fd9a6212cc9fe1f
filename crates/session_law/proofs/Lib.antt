mod Adverts
mod Carried
mod Changes
mod Chosen
pub mod Configs
mod Edits
mod Foreign
mod Keys
mod Lists
mod NextHops
mod Queues
mod ReceivedPaths
mod Refusals
mod Routes
pub mod Runs
mod Steps
pub mod Told
