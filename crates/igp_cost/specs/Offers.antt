-- What edges offer by a tree's labels, and what a look at the links of some nodes tells of it. No public contract cites
-- this file.
use Rattle.std.specs.Prelude.{◌≡◌, ℕ, ◌+◌, ◌<◌, ◌==◌, ◌≢◌, ◌⊎◌, List, length, Contains, IsTrue, Some, None, if◌then◌else◌}
use Rattle.net_prefix.specs.declared.addr.Addr.{Addr}
use Rattle.igp_cost.specs.declared.change.Change.{Change}
use Rattle.igp_cost.specs.declared.label.Label.{Label}
use Rattle.igp_cost.specs.declared.least_trees.link.Link.{Link}
use Rattle.igp_cost.specs.Walks.{Nodes, share_as}
use Rattle.igp_cost.specs.Labels.{Labels, IsNotAfter, addr_at, label_at}
use Rattle.igp_cost.specs.Wired.{IsFound, AreAscending, rows_of}
use Rattle.igp_cost.specs.Trees.{Reached, source_of, label_in}
use Rattle.igp_cost.specs.Changes.{ends_of, metric_of, Loses, AreEndsOf}

-- the tree that labels by places say, from the node at s
abbrev pub tree_by : Nodes → ℕ → Labels → Reached
tree_by nodes s labels = record { source = addr_at nodes s; labels = rows_of nodes labels }

-- the label that an edge from a to b offers, from the label of a
abbrev pub via : Addr → Addr → Addr → ℕ → Label → Label
via r a b m l = record { cost = l.cost + m; hop = if a.0 == r.0 then b else l.hop }

-- an edge from a to b with this metric offers l or better
pub record Offers (nodes : Nodes) (t : Reached) (a b : Addr) (m : ℕ) (l : Label) : Type 0 where
  pub label : Label
  pub inside : IsTrue (share_as nodes (source_of t) a)
  pub is : label_in t a ≡ Some label
  pub enough : IsNotAfter (via (source_of t) a b m label) l

-- an edge from a to b with this metric offers nothing better than what is there
abbrev pub OffersNoBetter : Nodes → Reached → Addr → Addr → ℕ → Type 0
OffersNoBetter nodes t a b m = (l : Label) → IsTrue (share_as nodes (source_of t) a) → label_in t a ≡ Some l →
    (k : Label) × (label_in t b ≡ Some k) × IsNotAfter k (via (source_of t) a b m l)

-- some link from x is, the other way round, one that offers x its label l
pub record IsOffered (nodes : Nodes) (links : List Link) (t : Reached) (x : Addr) (l : Label) : Type 0 where
  pub link : Link
  pub among : Contains links link
  pub ends : addr_at nodes link.from ≡ x
  pub offers : Offers nodes t (addr_at nodes link.to) x link.metric l

-- if x has a label, then x is the source or is offered its label
abbrev pub IsHeld : Nodes → List Link → Reached → Addr → Type 0
IsHeld nodes links t x = (l : Label) → label_in t x ≡ Some l → (x ≡ source_of t) ⊎ IsOffered nodes links t x l

-- what is gone backed no label alone
abbrev pub LosesNothing : Change → Nodes → List Link → Reached → Type 0
LosesNothing change nodes links t = Loses change → IsHeld nodes links t (ends_of change).0
    × IsHeld nodes links t (ends_of change).1

-- what is new offers nothing better
abbrev pub GainsNothing : Change → Nodes → Reached → Type 0
GainsNothing change nodes t = (m : ℕ) → metric_of change ≡ Some m →
    OffersNoBetter nodes t (ends_of change).0 (ends_of change).1 m
    × OffersNoBetter nodes t (ends_of change).1 (ends_of change).0 m

-- both trees say the same of an address
abbrev pub SaySameOf : Reached → Reached → Addr → Type 0
SaySameOf t made x = label_in made x ≡ label_in t x

-- both trees say the same of each node
abbrev pub SaySame : Nodes → Reached → Reached → Type 0
SaySame nodes t made = (v : ℕ) → v < length nodes → SaySameOf t made (addr_at nodes v)

-- a link from a offers its other end nothing better; and if that has the label that it had, it is held, and offered a
-- nothing better
pub record IsSettledOver (nodes : Nodes) (links : List Link) (t made : Reached) (a : Addr) (link : Link) : Type 0 where
  pub out : OffersNoBetter nodes made a (addr_at nodes link.to) link.metric
  pub back : SaySameOf t made (addr_at nodes link.to) → OffersNoBetter nodes made (addr_at nodes link.to) a link.metric
  pub near : SaySameOf t made (addr_at nodes link.to) → IsHeld nodes links made (addr_at nodes link.to)

-- so do the links of the node at a place, and it is held itself
pub record IsSettledAround (nodes : Nodes) (links : List Link) (t made : Reached) (v : ℕ) : Type 0 where
  pub held : IsHeld nodes links made (addr_at nodes v)
  pub each : (link : Link) → Contains links link → link.from ≡ v →
      IsSettledOver nodes links t made (addr_at nodes v) link

-- the node at a place has the label that it had, or is settled
abbrev pub IsSameOrSettled : Nodes → List Link → Reached → Reached → ℕ → Type 0
IsSameOrSettled nodes links t made v = SaySameOf t made (addr_at nodes v) ⊎ IsSettledAround nodes links t made v

-- the tree says of its source that it is at no cost
abbrev pub HasStart : Reached → Type 0
HasStart t = label_in t (source_of t) ≡ Some (record { cost = 0; hop = source_of t })

-- the labels that differ are settled, and so are two places
pub record IsLocal (nodes : Nodes) (links : List Link) (t made : Reached) (one other : ℕ) : Type 0 where
  pub start : HasStart made
  pub each : (v : ℕ) → v < length nodes → IsSameOrSettled nodes links t made v
  pub first : IsSettledAround nodes links t made one
  pub second : IsSettledAround nodes links t made other

-- the labels by places are those that a tree says
abbrev pub AreLabelsOf : Nodes → Reached → Labels → Type 0
AreLabelsOf nodes t labels = (v : ℕ) → v < length nodes → label_at labels v ≡ label_in t (addr_at nodes v)

-- a tree made of labels, that is settled where it differs from one that says the same of each node
pub record IsMended (nodes : Nodes) (links : List Link) (t : Reached) (one other : ℕ) (made : Reached) : Type 0 where
  pub labels : Labels
  pub same_length : length labels ≡ length nodes
  pub is : made ≡ record { source = source_of t; labels = rows_of nodes labels }
  pub before : Reached
  pub known : SaySame nodes t before
  pub local : IsLocal nodes links before made one other

-- so mended around the ends of a change
pub record IsMendedOver (nodes : Nodes) (links : List Link) (change : Change) (t made : Reached) : Type 0 where
  pub one : ℕ
  pub other : ℕ
  pub found_one : IsFound nodes (ends_of change).0 one
  pub found_other : IsFound nodes (ends_of change).1 other
  pub mended : IsMended nodes links t one other made

-- one tree says what the other says, and something of x, of which the other says nothing
pub record HasOneMore (t : Reached) (x : Addr) (made : Reached) : Type 0 where
  pub rows : List (Addr × Label)
  pub is : made ≡ record { source = source_of t; labels = rows }
  pub ascending : AreAscending rows
  pub unknown : label_in t x ≡ None
  pub others : (y : Addr) → y ≢ x → label_in made y ≡ label_in t y

-- a link from a offers neither end anything better
pub record IsQuietOver (nodes : Nodes) (t : Reached) (a : Addr) (link : Link) : Type 0 where
  pub out : OffersNoBetter nodes t a (addr_at nodes link.to) link.metric
  pub back : OffersNoBetter nodes t (addr_at nodes link.to) a link.metric

-- the node at a place is held, and its links offer neither end anything better
pub record IsSettledAlone (nodes : Nodes) (links : List Link) (t : Reached) (v : ℕ) : Type 0 where
  pub held : IsHeld nodes links t (addr_at nodes v)
  pub each : (link : Link) → Contains links link → link.from ≡ v → IsQuietOver nodes t (addr_at nodes v) link

-- a tree that says something more of the node x, which is settled
pub record IsGrownTo (nodes : Nodes) (links : List Link) (t : Reached) (x : Addr) (made : Reached) : Type 0 where
  pub place : ℕ
  pub found : IsFound nodes x place
  pub more : HasOneMore t x made
  pub settled : IsSettledAlone nodes links made place

-- so grown to an end of a new edge
pub record IsGrownOver (nodes : Nodes) (links : List Link) (change : Change) (t made : Reached) : Type 0 where
  pub adds : Loses change → ⊥
  pub near : Addr
  pub leaf : Addr
  pub ends : AreEndsOf change near leaf
  pub grown : IsGrownTo nodes links t leaf made
