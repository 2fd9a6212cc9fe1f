mod Walks
mod Uses
mod Teams
mod Subcommands
mod Getters
