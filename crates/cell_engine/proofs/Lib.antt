pub mod Halving
pub mod Seen
mod Costless
pub mod Entries
mod Lists
mod LoneBest
pub mod Outcomes
pub mod OneHop
pub mod Recosted
pub mod SendersInOrder
pub mod StandingsAfter
mod InPlace
mod Lent
mod SenderPlaces
pub mod Unchanged
mod WithinSite
mod MoveTests
pub mod Knowing
pub mod Widening
pub mod Ascending
pub mod Chunks
pub mod Decided
pub mod Effective
pub mod Decisions
pub mod Directions
pub mod AfterEdit
pub mod AcceptedEdits
pub mod Flat
pub mod Kept
pub mod Listed
pub mod Matches
pub mod Moves
pub mod Offers
pub mod OverSessions
pub mod Picks
pub mod Placed
pub mod Pushes
pub mod Queues
pub mod Reasons
pub mod Received
pub mod Refreshed
pub mod Reports
pub mod Routers
pub mod Senders
pub mod Settled
pub mod Sites
pub mod Taken
pub mod Told
pub mod ToldByChanges
pub mod Touched
pub mod Walks
pub mod Unmoved
pub mod Admitted
pub mod Cleared
pub mod Counts
pub mod Deciding
pub mod Delivered
mod DeliveredInPlace
pub mod Growth
pub mod Placing
pub mod Reconfigured
pub mod Redecided
pub mod Remade
pub mod Skipped
pub mod WalksInOrder
pub mod Whole
mod Filtered
