mod Words
mod Commands
mod Calls
mod Versions
mod Checking
mod Steps
mod Exact
mod Idle
