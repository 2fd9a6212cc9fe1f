-- Entries in the order of their keys, in chunks.
use Rattle.std.specs.Prelude.{◌≡◌, ℕ, ◌<◌, List, map, length, Some, slice_get}
use Rattle.std.proofs.Common.{set}
use Rattle.std.specs.List.{flat_map}
use Rattle.std.specs.Map.{keys_of, lookup, remove_entry}
use Rattle.std.specs.BTreeMap.{insert_entry, is_at}
use Rattle.std.specs.declared.cmp.Ordering.{Ordering}
use Rattle.shared_map.specs.Chunks.{AreChunks}

module _ {K V : Type 0} where
  -- the entries of all chunks
  abbrev pub entries_in : List (List (K × V)) → List (K × V)
  entries_in chunks = flat_map (λ es. es) chunks

  module _ (cmp : K → K → Ordering) where
    -- each chunk has an entry, and the keys of all are in order
    abbrev pub AreEntryChunks : List (List (K × V)) → Type 0
    AreEntryChunks chunks = AreChunks cmp (map keys_of chunks)

    -- the chunk at this position is the one in which the key can stand
    pub record IsPlace (chunks : List (List (K × V))) (q : K) (at : ℕ) : Type 0 where
      pub in_range : at < length chunks
      pub value : (es : List (K × V)) → slice_get chunks at ≡ Some es →
          lookup (is_at (cmp q)) es ≡ lookup (is_at (cmp q)) (entries_in chunks)
      pub put : (v : V) (es : List (K × V)) → slice_get chunks at ≡ Some es →
          entries_in (set chunks at (insert_entry cmp es q v)) ≡ insert_entry cmp (entries_in chunks) q v
      pub taken : (es : List (K × V)) → slice_get chunks at ≡ Some es →
          entries_in (set chunks at (remove_entry (is_at (cmp q)) es)) ≡ remove_entry (is_at (cmp q))
          (entries_in chunks)
