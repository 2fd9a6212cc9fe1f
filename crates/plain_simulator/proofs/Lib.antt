mod Lists
mod MessagesOfChoices
mod Questions
mod Runs
mod Sites
mod Sources
