-- No public contract cites this file.
-- Where an entry, or a key, stands in a list in order, and where it would go.
use Rattle.std.specs.Prelude.{◌≡◌, ℕ, ◌<◌, ◌≤◌, true, false, List, length, Some, None, slice_get}
use Rattle.std.proofs.Common.{set}
use Rattle.std.specs.List.{insert, remove, list_any}
use Rattle.std.specs.Map.{lookup, remove_entry}
use Rattle.std.specs.Set.{remove_key}
use Rattle.std.specs.BTreeMap.{insert_entry, is_at}
use Rattle.std.specs.BTreeSet.{insert_key}
use Rattle.std.specs.declared.cmp.Ordering.{Ordering}

module _ {K : Type 0} (cmp : K → K → Ordering) where
  -- the key's entry stands at this position
  pub record IsAt {V : Type 0} (es : List (K × V)) (k : K) (position : ℕ) : Type 0 where
    pub in_range : position < length es
    pub written : (v : V) (e : K × V) → slice_get es position ≡ Some e →
        set es position (e.0, v) ≡ insert_entry cmp es k v
    pub removed : remove es position ≡ remove_entry (is_at (cmp k)) es
    pub value : (e : K × V) → slice_get es position ≡ Some e → lookup (is_at (cmp k)) es ≡ Some e.1

  -- the key has no entry, and it would go to this position
  pub record IsFor {V : Type 0} (es : List (K × V)) (k : K) (position : ℕ) : Type 0 where
    pub in_range : position ≤ length es
    pub added : (v : V) → insert es position (k, v) ≡ insert_entry cmp es k v
    pub absent : lookup (is_at (cmp k)) es ≡ None
    pub kept : es ≡ remove_entry (is_at (cmp k)) es

  -- the key stands at this position
  pub record IsKeyAt (ks : List K) (k : K) (position : ℕ) : Type 0 where
    pub in_range : position < length ks
    pub kept : ks ≡ insert_key cmp ks k
    pub removed : remove ks position ≡ remove_key (is_at (cmp k)) ks
    pub there : true ≡ list_any (is_at (cmp k)) ks

  -- the key is not there, and it would go to this position
  pub record IsKeyFor (ks : List K) (k : K) (position : ℕ) : Type 0 where
    pub in_range : position ≤ length ks
    pub added : insert ks position k ≡ insert_key cmp ks k
    pub absent : false ≡ list_any (is_at (cmp k)) ks
    pub kept : ks ≡ remove_key (is_at (cmp k)) ks
