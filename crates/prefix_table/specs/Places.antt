-- No public contract cites this file.
-- Where a key's entry stands in a list in the order of its keys, and where it would go.
use Rattle.std.specs.Prelude.{◌≡◌, ℕ, ◌*◌, ◌/◌, ◌<◌, ◌≤◌, IsTrue, List, length, Option, Some, None, slice_get}
use Rattle.std.proofs.Common.{set}
use Rattle.std.specs.List.{insert}
use Rattle.std.specs.FinMap.Entries.{put, find, is_sorted}
use Rattle.net_prefix.specs.declared.addr.Addr.{Addr}
use Rattle.net_prefix.specs.Prefix.{Prefix, prefix_cmp, size}

-- the entries are in the order of their prefixes, each prefix once
abbrev pub AreInOrder : {V : Type 0} → List (Prefix × V) → Type 0
AreInOrder es = IsTrue (is_sorted prefix_cmp es)

-- the key's entry stands at this position
pub record IsAt {V : Type 0} (es : List (Prefix × V)) (p : Prefix) (position : ℕ) : Type 0 where
  pub in_range : position < length es
  pub written : (v : V) → set es position (p, v) ≡ put prefix_cmp p v es
  pub value : (e : Prefix × V) → slice_get es position ≡ Some e → find prefix_cmp p es ≡ Some e.1
  pub key : (e : Prefix × V) → slice_get es position ≡ Some e → e.0 ≡ p

-- the key has no entry, and would go to this position
pub record IsFor {V : Type 0} (es : List (Prefix × V)) (p : Prefix) (position : ℕ) : Type 0 where
  pub in_range : position ≤ length es
  pub added : (v : V) → insert es position (p, v) ≡ put prefix_cmp p v es
  pub absent : find prefix_cmp p es ≡ None

-- the prefix of this length that contains the address
abbrev pub prefix_around : Addr → ℕ → Prefix
prefix_around a len = record { addr = record { 0 = a.0 / size len * size len }; len = len }

-- the entries, with this value of the key, if it is one, changed
abbrev pub changed : {V : Type 0} → (V → V) → Prefix → List (Prefix × V) → Option V → List (Prefix × V)
changed f p es None = es
changed f p es (Some v) = put prefix_cmp p (f v) es
