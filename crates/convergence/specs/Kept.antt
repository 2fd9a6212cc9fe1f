-- A network, with snapshots of it that are kept (own).
use Rattle.std.specs.Prelude.{◌≡◌, ℕ, ◌+◌, List, [], ◌∷◌, ◌++◌, length}
use Rattle.reference_machine.specs.Network.{Network}
use Rattle.reference_machine.specs.Machine.{nothing}

pub record Kept : Type 0 where
  pub network : Network
  pub snapshots : List Network

-- nothing has happened, and none is kept
abbrev pub nothing_kept : Kept
nothing_kept = record { network = nothing; snapshots = [] }

-- the network is kept as it is, as the last of them
abbrev pub with_snapshot : Kept → Kept
with_snapshot s = record { network = s.network; snapshots = s.snapshots ++ s.network ∷ [] }

-- the network is the one that was kept as this number, from 1 on; that and all after it are forgotten
pub record IsRestored (n : ℕ) (s s' : Kept) : Type 0 where
  pub later : List Network
  pub snapshots : s.snapshots ≡ s'.snapshots ++ s'.network ∷ later
  pub number : length s'.snapshots + 1 ≡ n
