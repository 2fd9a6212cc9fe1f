-- What a worker takes away from the room to decide, and what may have moved until it is committed.
use Rattle.std.specs.Prelude.{◌≡◌, ◌≢◌, ℕ, ⊤, List, [], ◌∷◌, All, map, slice_get, Option, Some, None}
use Rattle.std.specs.List.Sorted.{IsStrictlySortedBy}
use Rattle.net_prefix.specs.declared.addr.Addr.{Addr}
use Rattle.net_prefix.specs.Address.{addr_cmp}
use Rattle.net_prefix.specs.Prefix.{Prefix}
use Rattle.net_conf.specs.declared.site.SiteConf.{SiteConf}
use Rattle.net_conf.specs.RouterSites.{router_site}
use Rattle.session_queue.specs.declared.message.Message.{Message}
use Rattle.session_queue.specs.declared.direction.Direction.{Direction}
use Rattle.session_queue.specs.Telling.{prefix_of}
use Rattle.session_queue.specs.Shards.{shard_of}
use Rattle.session_queue.specs.Waiting.{queue_at}
use Rattle.cell_engine.specs.Cells.{Cell, Outcome, IsDecided}
use Rattle.cell_engine.specs.State.{cell_at}
use Rattle.cell_engine.specs.Deliveries.{outcome_by}
use Rattle.room.specs.Books.{RoomBook, version_of}

-- what a job holds
pub record Job : Type 0 where
  pub direction : Direction
  -- how many edits were accepted
  pub version : ℕ
  -- the message at the head of the direction's queue
  pub head : Message
  -- the receiver's site; none where a virtual peer stands
  pub site : Option SiteConf
  -- what the receiver has received of the message's prefix, and its choice
  pub cell : Cell

-- IN THE ROOM

abbrev pub head_in : RoomBook → Direction → Option Message
head_in room d = slice_get (queue_at room.engine.queues d.from d.to) 0

abbrev pub site_in : RoomBook → Direction → Option SiteConf
site_in room d = router_site room.engine.conf d.to

abbrev pub cell_in : RoomBook → Direction → Message → Cell
cell_in room d m = cell_at d.to (prefix_of m) room.engine.tables

-- the job holds the room's version
abbrev pub HasVersion : RoomBook → Job → Type 0
HasVersion room x = x.version ≡ version_of room.history

-- and the receiver's site
abbrev pub HasSite : RoomBook → Job → Type 0
HasSite room x = x.site ≡ site_in room x.direction

-- all that the job holds is in the room
pub record IsSeenIn (room : RoomBook) (x : Job) : Type 0 where
  pub version : HasVersion room x
  pub site : HasSite room x
  pub head : head_in room x.direction ≡ Some x.head
  pub cell : x.cell ≡ cell_in room x.direction x.head

-- no message waits for a receiver of the shard
abbrev pub NoneWaits : RoomBook → ℕ → ℕ → Type 0
NoneWaits room shard shards = (from to : Addr) → shard_of to shards ≡ shard → queue_at room.engine.queues from to ≡ []

-- the job's receiver is of the shard
abbrev pub IsOfShard : ℕ → ℕ → Job → Type 0
IsOfShard shard shards x = shard_of x.direction.to shards ≡ shard

-- the jobs were taken at one time: there is a room in which each holds what is there
abbrev pub AreTakenTogether : List Job → Type 0
AreTakenTogether xs = (room : RoomBook) × All (IsSeenIn room) xs

-- the cell that the job decides: its receiver and prefix
abbrev pub cell_of : Job → Addr × Prefix
cell_of x = (x.direction.to, prefix_of x.head)

-- no two decide one cell
abbrev pub AreApart : List Job → Type 0
AreApart [] = ⊤
AreApart (x ∷ xs) = All (λ y. cell_of x ≢ cell_of y) xs × AreApart xs

-- DECIDED

abbrev pub ArePeersInOrder : Option SiteConf → Type 0
ArePeersInOrder None = ⊤
ArePeersInOrder (Some site) = IsStrictlySortedBy addr_cmp (map (λ s. s.peer) site.sessions)

-- what was received was decided by the site
pub record CanDecide (x : Job) : Type 0 where
  pub decided : IsDecided x.site (prefix_of x.head) x.cell
  pub peers : ArePeersInOrder x.site

-- what the receiver makes of the head (RFC 4271, 9)
abbrev pub outcome_of : Job → Outcome
outcome_of x = outcome_by x.site x.cell x.direction.from x.head
