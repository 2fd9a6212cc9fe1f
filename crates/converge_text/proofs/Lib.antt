mod Tokens
mod RequestLemmas
mod Echoing
mod Directions
