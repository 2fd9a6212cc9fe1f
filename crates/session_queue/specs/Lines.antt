-- Lines of messages: in each direction of a session the messages on their way, the head first, and how many more it can
-- take (own).
use Rattle.std.specs.Prelude.{◌≡◌, ℕ, Bool, false, ◌&&◌, List, [], Option, Some, None}
use Rattle.std.specs.Map.{lookup}
use Rattle.std.specs.BTreeMap.{is_at}
use Rattle.std.specs.declared.cmp.Ordering.{Ordering}
use Rattle.std.specs.declared.cmp.Ordering.TheVariants.{Less}
use Rattle.std.specs.Ordering.{ordering_then}
use Rattle.net_prefix.specs.declared.addr.Addr.{Addr}
use Rattle.net_prefix.specs.Address.{same_addr, addr_cmp}
use Rattle.session_queue.specs.declared.direction.Direction.{Direction}

-- what one direction holds: its messages, the head first, and how many more it can take without memory
pub record Waiting (M : Type 0) : Type 0 where
  pub messages : List M
  pub spare : ℕ

-- by sender, then by receiver (own)
abbrev pub direction_cmp : Direction → Direction → Ordering
direction_cmp d e = ordering_then (addr_cmp d.from e.from) (addr_cmp d.to e.to)

-- what each direction holds, by sender and receiver: a direction that is not here has neither a message nor spare
-- memory
abbrev pub Lines : Type 0 → Type 0
Lines M = List (Direction × Waiting M)

-- both ends are the same
abbrev pub same_direction : Addr → Addr → Addr → Addr → Bool
same_direction from to f t = same_addr f from && same_addr t to

-- the first direction comes before the second: by sender, then by receiver
abbrev pub IsBefore : Addr × Addr → Addr × Addr → Type 0
IsBefore d e = direction_cmp (record { from = d.0; to = d.1 }) (record { from = e.0; to = e.1 }) ≡ Less

-- the direction comes after this one, if one is given
abbrev pub IsPast : Option (Addr × Addr) → Addr × Addr → Type 0
IsPast None d = Unit {0}
IsPast (Some start) d = IsBefore start d

module _ {M : Type 0} where
  -- what the direction holds, if anything
  abbrev pub waiting_at : Lines M → Addr → Addr → Option (Waiting M)
  waiting_at ls from to = lookup (is_at (direction_cmp (record { from = from; to = to }))) ls

  abbrev pub messages_of : Option (Waiting M) → List M
  messages_of None = []
  messages_of (Some w) = w.messages

  abbrev pub spare_of : Option (Waiting M) → ℕ
  spare_of None = 0
  spare_of (Some w) = w.spare

  -- the messages on their way in the direction, the head first
  unfoldable pub messages_at : Lines M → Addr → Addr → List M
  messages_at ls from to = messages_of (waiting_at ls from to)

  -- how many more messages the direction can take without memory
  unfoldable pub spare_in : Lines M → Addr → Addr → ℕ
  spare_in ls from to = spare_of (waiting_at ls from to)

  -- each other direction keeps its messages and how many more it can take
  pub record KeepsOtherLines (from to : Addr) (ls ms : Lines M) : Type 0 where
    pub messages : (f t : Addr) → same_direction from to f t ≡ false → messages_at ms f t ≡ messages_at ls f t
    pub spare : (f t : Addr) → same_direction from to f t ≡ false → spare_in ms f t ≡ spare_in ls f t

  -- no message is on its way in any direction
  abbrev pub AreEmpty : Lines M → Type 0
  AreEmpty ls = (from to : Addr) → messages_at ls from to ≡ []

  -- no message is on its way in a direction past the start and before the one that was found; where none was found, in
  -- none past the start
  abbrev pub PassNone : Lines M → Option (Addr × Addr) → Option (Addr × Addr) → Type 0
  PassNone ls start None = (from to : Addr) → IsPast start (from, to) → messages_at ls from to ≡ []
  PassNone ls start (Some found) = (from to : Addr) → IsPast start (from, to) → IsBefore (from, to) found →
      messages_at ls from to ≡ []
