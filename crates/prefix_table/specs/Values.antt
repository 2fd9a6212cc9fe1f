-- No public contract cites this file.
-- Values beside the table of their places.
use Rattle.std.specs.Prelude.{◌≡◌, ℕ, ◌<◌, List, length, Option, Some, slice_get}
use Rattle.std.specs.Option.{option_map, option_and_then}
use Rattle.std.specs.List.{filter_map}
use Rattle.std.specs.FinMap as fin
use Rattle.net_prefix.specs.Prefix.{Prefix}
use Rattle.prefix_table.specs.declared.node.Node.{Node}
use Rattle.prefix_table.specs.Tables.{Table}
use Rattle.prefix_table.specs.Trie.{IsTrie, places_in}

-- the value in a place, if there is a place
abbrev pub value_in : {V : Type 0} → List V → Option ℕ → Option V
value_in vs place = option_and_then (slice_get vs) place

-- an entry, with the value in its place
abbrev pub with_value : {V : Type 0} → List V → Prefix × ℕ → Option (Prefix × V)
with_value vs e = option_map (λ v. (e.0, v)) (slice_get vs e.1)

-- entries, each with the value in its place
abbrev pub with_values : {V : Type 0} → List V → List (Prefix × ℕ) → List (Prefix × V)
with_values vs es = filter_map (with_value vs) es

-- the table of the values in these places
abbrev pub values_of : {V : Type 0} → List V → Table ℕ → Table V
values_of vs t = fin.from_sorted (with_values vs (fin.entries t))

-- there is a value in each place, and no two prefixes have the same place
pub record ArePlaced {V : Type 0} (vs : List V) (t : Table ℕ) : Type 0 where
  pub in_range : (p : Prefix) (place : ℕ) → fin.get t p ≡ Some place → place < length vs
  pub apart : (p q : Prefix) (place : ℕ) → fin.get t p ≡ Some place → fin.get t q ≡ Some place → p ≡ q

-- the table of the values whose places a trie has
abbrev pub table_in : {V : Type 0} → List Node → List V → Table V
table_in ns vs = values_of vs (places_in ns)

-- the nodes are a trie of the places of the values
pub record IsIndex {V : Type 0} (ns : List Node) (vs : List V) : Type 0 where
  pub trie : IsTrie ns
  pub placed : ArePlaced vs (places_in ns)
