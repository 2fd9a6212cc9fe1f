-- Tables by the address of their router: each a finite map from prefixes to values.
use Rattle.std.specs.Prelude.{Bool, true, IsTrue, List, map, find, Option, Some, None, option_map, unwrap_or}
use Rattle.std.specs.FinMap as finite
use Rattle.std.specs.FinMap.Entries as entries
use Rattle.std.specs.Ordering.{is_lt}
use Rattle.net_prefix.specs.declared.addr.Addr.{Addr}
use Rattle.net_prefix.specs.Address.{addr_cmp}
use Rattle.net_prefix.specs.Prefix.{Prefix}
use Rattle.prefix_table.specs.Tables.{Table}

-- by address, each once
abbrev pub AreByRouter : {A : Type 0} → List (Addr × A) → Type 0
AreByRouter ts = IsTrue (entries.is_sorted addr_cmp ts)

-- the tables, as finite maps
abbrev pub tables_of : {A V : Type 0} → (A → Table V) → List (Addr × A) → List (Addr × Table V)
tables_of table ts = map (λ t. (t.0, table t.1)) ts

-- the router's table: an empty one where it has none
abbrev pub table_at : {V : Type 0} → Addr → List (Addr × Table V) → Table V
table_at r ts = unwrap_or (entries.find addr_cmp r ts) finite.empty

-- the value of the router and prefix, where there is one
abbrev pub value_at : {V : Type 0} → Addr → Prefix → List (Addr × Table V) → Option V
value_at r p ts = finite.get (table_at r ts) p

-- the tables, with this value of the router and prefix
abbrev pub with_value : {V : Type 0} → Addr → Prefix → V → List (Addr × Table V) → List (Addr × Table V)
with_value r p v ts = entries.put addr_cmp r (finite.insert (table_at r ts) p v) ts

-- the tables, with this value of the router and prefix, if it is one, changed
abbrev pub adjusted_value : {V : Type 0} → (V → V) → Addr → Prefix → List (Addr × Table V) → Option V →
    List (Addr × Table V)
adjusted_value f r p ts None = ts
adjusted_value f r p ts (Some v) = with_value r p (f v) ts

-- the tables, with the value of the router and prefix, where there is one, changed
abbrev pub adjusted_at : {V : Type 0} → (V → V) → Addr → Prefix → List (Addr × Table V) → List (Addr × Table V)
adjusted_at f r p ts = adjusted_value f r p ts (value_at r p ts)

-- the address comes after this one, if one is given
abbrev pub is_past : Option Addr → Addr → Bool
is_past None a = true
is_past (Some start) a = is_lt (addr_cmp start a)

-- the first address that has a table, of those past the start
abbrev pub next_of : {V : Type 0} → List (Addr × Table V) → Option Addr → Option Addr
next_of ts start = option_map (λ t. t.0) (find (λ t. is_past start t.0) ts)
