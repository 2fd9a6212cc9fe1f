-- What becomes of a job that is done.
use Rattle.std.specs.Prelude.{◌≡◌, ◌≢◌, Bool, true, false, List, [], ◌∷◌, ◌++◌, Option, ◌<◌}
use Rattle.net_prefix.specs.declared.addr.Addr.{Addr}
use Rattle.path_attr.specs.declared.attr.Attr.{Attr}
use Rattle.sim_event.specs.declared.event.Event.{Event}
use Rattle.sim_event.specs.declared.event.Event.TheVariants.{Deliver}
use Rattle.sim_event.specs.declared.reply.Reply.{Reply}
use Rattle.reference_machine.specs.Decision.{route_from}
use Rattle.reference_machine.specs.Machine.{step}
use Rattle.session_queue.specs.declared.message.Message.{Message}
use Rattle.session_queue.specs.Telling.{prefix_of}
use Rattle.cell_engine.specs.Cells.{route_of}
use Rattle.cell_engine.specs.State.{network}
use Rattle.sim_core.specs.Counting.{Counts}
use Rattle.room.specs.declared.room.commit.Newer.{Newer}
use Rattle.room.specs.declared.room.commit.Newer.TheVariants.{ConfMoved, SiteMoved, HeadMoved, CellMoved}
use Rattle.room.specs.declared.room.commit.Committed.{Committed}
use Rattle.room.specs.declared.room.commit.Committed.TheVariants.{Delivered, Stale}
use Rattle.room.specs.Books.{RoomBook, SeatBook, version_of, with_call}
use Rattle.room.specs.Jobs.{Job, HasSite, HasVersion, head_in, site_in}

-- the delivery that the job was for
abbrev pub delivery_of : Job → Event
delivery_of x = Deliver x.direction.from x.direction.to

abbrev pub head_seen : Job → Option Message
head_seen x = Option.Some x.head

-- the job holds the head of the room's queue
abbrev pub HasHead : RoomBook → Job → Type 0
HasHead room x = head_seen x ≡ head_in room x.direction

-- the route that the job holds from the peer
abbrev pub route_had : Job → Addr → Option Attr
route_had x peer = route_of x.cell.received peer

-- the route that the receiver has received from the peer in the room
abbrev pub route_now : RoomBook → Job → Addr → Option Attr
route_now room x peer = route_from (network room.engine).received x.direction.to (prefix_of x.head) peer

-- from each peer at a lower address both have the same route
abbrev pub AreSameBelow : Addr → (Addr → Option Attr) → (Addr → Option Attr) → Type 0
AreSameBelow peer had now = (lower : Addr) → lower.0 < peer.0 → had lower ≡ now lower

-- what has moved, the first of these: the configuration, the receiver's site, the head of the queue, what the receiver
-- has received, from the first peer, by address, from which it is another route
abbrev pub IsNewer : RoomBook → Job → Newer → Type 0
IsNewer room x (ConfMoved had now) = (had ≡ x.version) × (now ≡ version_of room.history) × (had ≢ now)
IsNewer room x (SiteMoved had now) = HasVersion room x × (had ≡ x.site) × (now ≡ site_in room x.direction) × (had ≢ now)
IsNewer room x (HeadMoved had now) =
    HasVersion room x × HasSite room x × (had ≡ head_seen x) × (now ≡ head_in room x.direction) × (had ≢ now)
IsNewer room x (CellMoved peer had now) =
    HasVersion room x × HasSite room x × HasHead room x
    × (had ≡ route_had x peer) × (now ≡ route_now room x peer) × (had ≢ now)
    × AreSameBelow peer (route_had x) (route_now room x)

-- nothing changes
pub record IsUnchanged (room : RoomBook) (seat : SeatBook) (room' : RoomBook) (seat' : SeatBook) : Type 0 where
  pub network : network room'.engine ≡ network room.engine
  pub decided : room'.decided ≡ room.decided
  pub history : room'.history ≡ room.history
  pub seats : room'.seats ≡ room.seats
  pub notes : seat' ≡ seat

-- the delivery is the machine's own step, counted as that is, the last of the history, and of the seat's notes
pub record IsDelivered (room : RoomBook) (seat : SeatBook) (event : Event) (reply : Reply) (room' : RoomBook)
    (seat' : SeatBook) : Type 0 where
  pub replies : reply ≡ (step (network room.engine) event).reply
  pub state : network room'.engine ≡ (step (network room.engine) event).next
  pub counted : Counts (network room.engine) event reply room.decided room'.decided
  pub history : room'.history ≡ room.history ++ record { seat = seat.number; event = event; reply = reply } ∷ []
  pub notes : seat' ≡ with_call seat event reply
  pub seats : room'.seats ≡ room.seats

abbrev pub is_delivered : Committed → Bool
is_delivered (Delivered reply) = true
is_delivered (Stale newer) = false

-- the outcome is put in, or something has moved and nothing changes
abbrev pub IsCommitted : RoomBook → SeatBook → Job → Committed → RoomBook → SeatBook → Type 0
IsCommitted room seat x (Delivered reply) room' seat' = IsDelivered room seat (delivery_of x) reply room' seat'
IsCommitted room seat x (Stale newer) room' seat' = IsNewer room x newer × (room' ≡ room) × (seat' ≡ seat)

-- the outcomes are committed one after another
abbrev pub AreCommitted : RoomBook → SeatBook → List Job → RoomBook → SeatBook → Type 0
AreCommitted room seat [] room' seat' = (room' ≡ room) × (seat' ≡ seat)
AreCommitted room seat (x ∷ xs) room' seat' =
    (next : RoomBook) × (after : SeatBook) × (told : Committed) × IsCommitted room seat x told next after
    × AreCommitted next after xs room' seat'

-- so are the first of them; for the next, whose version is the room's, there is no memory: it and the others are let go
pub record IsBrokenOff (room : RoomBook) (seat : SeatBook) (xs : List Job) (room' : RoomBook)
    (seat' : SeatBook) : Type 0 where
  pub first : List Job
  pub wanting : Job
  pub others : List Job
  pub parts : xs ≡ first ++ wanting ∷ others
  pub next : RoomBook
  pub after : SeatBook
  pub committed : AreCommitted room seat first next after
  pub version : HasVersion next wanting
  pub left : IsUnchanged next after room' seat'
