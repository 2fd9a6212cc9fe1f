-- No public contract cites this file.
-- A binary trie in a list of nodes: what its nodes say of one another.
use Rattle.std.specs.Prelude.{◌≡◌, ℕ, zero, suc, ◌-◌, ◌/◌, ◌%◌, ◌^◌, ◌<◌, ◌≤◌, ◌==◌, ◌&&◌, leb, Bool, true, false, cond, List, [], ◌∷◌, length, map, Option, Some, None, IsTrue, is_some}
use Rattle.std.proofs.Common.{get_or}
use Rattle.std.specs.Ordering.{is_lt}
use Rattle.std.specs.FinMap as fin
use Rattle.std.specs.FinMap.Entries.{where_key}
use Rattle.net_prefix.specs.declared.addr.Addr.{Addr}
use Rattle.net_prefix.specs.Prefix.{Prefix, MakePrefix, Covers, prefix_cmp, first_bits}
use Rattle.prefix_table.specs.declared.node.Node.{Node}
use Rattle.prefix_table.specs.declared.node.NodeId.{NodeId}
use Rattle.prefix_table.specs.Tables.{Table, is_after}

-- whether bit k of the address is set, from 0 for the highest
abbrev pub bit_at : Addr → ℕ → Bool
bit_at a k = a.0 / 2 ^ (31 - k) % 2 == 1

-- q is longer than p, and lies in its lower half, or at true in its upper half
pub record IsUnder (p : Prefix) (upper : Bool) (q : Prefix) : Type 0 where
  pub longer : p.len < q.len
  pub covers : Covers p q
  pub half : bit_at q.addr p.len ≡ upper

-- the prefix that covers all
abbrev pub whole : Prefix
whole = record { addr = record { 0 = 0 }; len = 0 }

abbrev pub child_of : Bool → Node → Option NodeId
child_of upper n = cond upper n.high n.low

abbrev pub prefix_at : List Node → ℕ → Prefix
prefix_at ns i = get_or (map (λ n. n.prefix) ns) i whole

abbrev pub place_at : List Node → ℕ → Option ℕ
place_at ns i = get_or (map (λ n. n.place) ns) i None

abbrev pub child_at : List Node → Bool → ℕ → Option NodeId
child_at ns upper i = get_or (map (child_of upper) ns) i None

-- the node of this index lies in that half of p, and covers each node that does
pub record IsBelow (ns : List Node) (p : Prefix) (upper : Bool) (node : ℕ) : Type 0 where
  pub in_range : node < length ns
  pub under : IsUnder p upper (prefix_at ns node)
  pub covers : (j : ℕ) → j < length ns → IsUnder p upper (prefix_at ns j) → Covers (prefix_at ns node) (prefix_at ns j)

-- no two nodes have one prefix, the first covers all, and a child covers what lies in its half
pub record IsTrie (ns : List Node) : Type 0 where
  pub blocks : (i : ℕ) → i < length ns → MakePrefix (prefix_at ns i).addr (prefix_at ns i).len
  pub unique : (i j : ℕ) → i < length ns → j < length ns → prefix_at ns i ≡ prefix_at ns j → i ≡ j
  pub root : prefix_at ns 0 ≡ whole
  pub covered : (i : ℕ) → i < length ns → Covers whole (prefix_at ns i)
  pub empty : (i j : ℕ) (upper : Bool) → i < length ns → j < length ns → child_at ns upper i ≡ None →
      IsUnder (prefix_at ns i) upper (prefix_at ns j) → ⊥
  pub below : (i : ℕ) (upper : Bool) (k : NodeId) → i < length ns → child_at ns upper i ≡ Some k →
      IsBelow ns (prefix_at ns i) upper k.0

-- an entry in front, if there is a place
abbrev pub entry_or_not : Prefix → Option ℕ → List (Prefix × ℕ) → List (Prefix × ℕ)
entry_or_not p None es = es
entry_or_not p (Some place) es = (p, place) ∷ es

-- the prefixes of the nodes that have a value, each with its place
abbrev pub node_places : List Node → List (Prefix × ℕ)
node_places [] = []
node_places (n ∷ ns) = entry_or_not n.prefix n.place (node_places ns)

-- the places of the values, by prefix
abbrev pub places_in : List Node → Table ℕ
places_in ns = fin.from_entries (node_places ns)

-- whether p covers q
abbrev pub covers : Prefix → Prefix → Bool
covers p q = leb p.len q.len && first_bits p.len q.addr == first_bits p.len p.addr

-- whether a node covers q, if there is that node
abbrev pub is_in : List Node → Option NodeId → Prefix → Bool
is_in ns None q = false
is_in ns (Some at) q = covers (prefix_at ns at.0) q

-- the entries of the nodes that a node covers, in the order of their prefixes
abbrev pub entries_below : List Node → Option NodeId → List (Prefix × ℕ)
entries_below ns at = where_key prefix_cmp (is_in ns at) (fin.entries (places_in ns))

-- a node nearer to q: it covers q, and its prefix is longer
pub record IsNearer (ns : List Node) (q : Prefix) (from node : ℕ) : Type 0 where
  pub in_range : node < length ns
  pub longer : (prefix_at ns from).len < (prefix_at ns node).len
  pub covers : Covers (prefix_at ns node) q
  pub next : (j : ℕ) → j < length ns → Covers (prefix_at ns j) q → (prefix_at ns from).len < (prefix_at ns j).len →
      (prefix_at ns node).len ≤ (prefix_at ns j).len

-- no node that covers q has a longer prefix than this one
abbrev pub IsLast : List Node → Prefix → ℕ → Type 0
IsLast ns q node = (j : ℕ) → j < length ns → Covers (prefix_at ns j) q → (prefix_at ns j).len ≤ (prefix_at ns node).len

-- the node with the longest prefix that covers q
pub record IsClosest (ns : List Node) (q : Prefix) (node : ℕ) : Type 0 where
  pub in_range : node < length ns
  pub covers : Covers (prefix_at ns node) q
  pub last : IsLast ns q node

-- a node with a value that covers q, from this length on
pub record IsCover (ns : List Node) (len : ℕ) (q : Prefix) (node : ℕ) : Type 0 where
  pub in_range : node < length ns
  pub valued : IsTrue (is_some (place_at ns node))
  pub covers : Covers (prefix_at ns node) q
  pub long : len ≤ (prefix_at ns node).len

-- of these the one with the longest prefix
pub record IsDeepest (ns : List Node) (len : ℕ) (q : Prefix) (node : ℕ) : Type 0 where
  pub cover : IsCover ns len q node
  pub longest : (j : ℕ) → IsCover ns len q j → (prefix_at ns j).len ≤ (prefix_at ns node).len

-- a node with a value that p covers and that comes after a prefix
pub record IsLater (ns : List Node) (p : Prefix) (after : Option Prefix) (node : ℕ) : Type 0 where
  pub in_range : node < length ns
  pub valued : IsTrue (is_some (place_at ns node))
  pub covers : Covers p (prefix_at ns node)
  pub later : is_after after (prefix_at ns node) ≡ true

-- of these the first
pub record IsFirstLater (ns : List Node) (p : Prefix) (after : Option Prefix) (node : ℕ) : Type 0 where
  pub is : IsLater ns p after node
  pub first : (j : ℕ) → IsLater ns p after j → is_lt (prefix_cmp (prefix_at ns j) (prefix_at ns node)) ≡ false

-- c can stand between p and all that lies in that half of p
pub record IsGap (ns : List Node) (p : Prefix) (upper : Bool) (c : Prefix) : Type 0 where
  pub block : MakePrefix c.addr c.len
  pub under : IsUnder p upper c
  pub covers : (j : ℕ) → j < length ns → IsUnder p upper (prefix_at ns j) → Covers c (prefix_at ns j)
      × (c.len < (prefix_at ns j).len)

-- q lies in a half of c in which no node lies
pub record IsLeafOf (ns : List Node) (c q : Prefix) : Type 0 where
  pub block : MakePrefix q.addr q.len
  pub under : IsUnder c (bit_at q.addr c.len) q
  pub none : (j : ℕ) → j < length ns → IsUnder c (bit_at q.addr c.len) (prefix_at ns j) → ⊥

-- the node of this index has this prefix
abbrev pub HasPrefix : List Node → ℕ → Prefix → Type 0
HasPrefix ns node q = (node < length ns) × (prefix_at ns node ≡ q)

abbrev pub prefixes : List Node → List Prefix
prefixes ns = map (λ n. n.prefix) ns

abbrev pub with_child : Bool → NodeId → Node → Node
with_child true child n = record { prefix = n.prefix; low = n.low; high = Some child; place = n.place }
with_child false child n = record { prefix = n.prefix; low = Some child; high = n.high; place = n.place }

-- the nodes, with this child below a half of one
abbrev pub linked : List Node → ℕ → Bool → NodeId → List Node
linked [] i upper child = []
linked (n ∷ ns) zero upper child = with_child upper child n ∷ ns
linked (n ∷ ns) (suc i) upper child = n ∷ linked ns i upper child

abbrev pub with_place : ℕ → Node → Node
with_place place n = record { prefix = n.prefix; low = n.low; high = n.high; place = Some place }

-- the nodes, with this place at one
abbrev pub placed : List Node → ℕ → ℕ → List Node
placed [] i place = []
placed (n ∷ ns) zero place = with_place place n ∷ ns
placed (n ∷ ns) (suc i) place = n ∷ placed ns i place
