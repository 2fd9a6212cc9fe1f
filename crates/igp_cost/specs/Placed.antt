-- Rows by the places of nodes, one for each, in which a cost past all others says that no walk is known. No public
-- contract cites this file.
use Rattle.std.specs.Prelude.{◌≡◌, ◌≢◌, ℕ, ◌==◌, ◌<◌, ◌≤◌, List, length, map, if◌then◌else◌, slice_index_or, Option, Some, None}
use Rattle.net_prefix.specs.declared.addr.Addr.{Addr}
use Rattle.igp_cost.specs.declared.label.Label.{Label}
use Rattle.igp_cost.specs.declared.least_trees.link.Link.{Link}
use Rattle.igp_cost.specs.declared.repair.ends.Ends.{Ends}
use Rattle.igp_cost.specs.Walks.{Nodes}
use Rattle.igp_cost.specs.Labels.{Labels, HasOneEach, AreLimited, addr_at}
use Rattle.igp_cost.specs.Wired.{no_row}
use Rattle.igp_cost.specs.Trees.{Reached, label_in}
use Rattle.igp_cost.specs.Offers.{tree_by, IsHeld, AreLabelsOf}

-- what a row says of its node
abbrev pub known : Label → Option Label
known l = if l.cost == 4294967295 then None else Some l

abbrev pub labels_of : List (Addr × Label) → Labels
labels_of rows = map (λ r. known r.1) rows

-- there is a row for each node, and none else
pub record ArePlaced (nodes : Nodes) (rows : List (Addr × Label)) : Type 0 where
  pub count : length rows ≡ length nodes
  pub each : (v : ℕ) → v < length nodes → (slice_index_or rows v no_row).0 ≡ addr_at nodes v

-- the tree that rows by places say, from the node at s
abbrev pub tree_in : Nodes → ℕ → List (Addr × Label) → Reached
tree_in nodes s rows = tree_by nodes s (labels_of rows)

-- the rows of before and those of now: of each one for each node
abbrev pub AreCompared : Nodes → List (Addr × Label) → List (Addr × Label) → Type 0
AreCompared nodes before rows = HasOneEach nodes before × HasOneEach nodes rows

-- the rows stand by the places of the nodes, and say of these what the tree does, within the limit
pub record AreRowsOf (nodes : Nodes) (t : Reached) (rows : List (Addr × Label)) : Type 0 where
  pub placed : ArePlaced nodes rows
  pub limited : AreLimited (labels_of rows)
  pub known : AreLabelsOf nodes t (labels_of rows)

-- by the rows, the node at v has the label
abbrev pub HasLabel : Nodes → ℕ → List (Addr × Label) → ℕ → Label → Type 0
HasLabel nodes s rows v label = label_in (tree_in nodes s rows) (addr_at nodes v) ≡ Some label

-- so it has, within the limit, and it is not the source
abbrev pub IsPlain : Nodes → ℕ → List (Addr × Label) → ℕ → Label → Type 0
IsPlain nodes s rows v label = HasLabel nodes s rows v label × (label.cost ≤ 268435456)
    × ((addr_at nodes v).0 ≢ (addr_at nodes s).0)

-- by the rows, the node at v is held
abbrev pub IsHeldAt : Nodes → List Link → ℕ → List (Addr × Label) → ℕ → Type 0
IsHeldAt nodes links s rows v = IsHeld nodes links (tree_in nodes s rows) (addr_at nodes v)

-- the ends are places of nodes
abbrev pub HasEnds : Nodes → Ends → Type 0
HasEnds nodes ends = (ends.one < length nodes) × (ends.other < length nodes)
