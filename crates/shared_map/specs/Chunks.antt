-- Keys in order, in chunks.
use Rattle.std.specs.Prelude.{◌≡◌, Bool, true, false, List, [], ◌∷◌, ◌++◌}
use Rattle.std.specs.List.{flat_map, list_all, AllByRecursion}
use Rattle.std.specs.List.Sorted.{IsStrictlySortedBy}
use Rattle.std.specs.declared.cmp.Ordering.{Ordering}
use Rattle.std.specs.declared.cmp.Ordering.TheVariants.{Less, Greater}
use Rattle.std.specs.Ordering.{is_ge}

module _ {K : Type 0} where
  -- the keys of all chunks
  abbrev pub keys_in : List (List K) → List K
  keys_in chunks = flat_map (λ ks. ks) chunks

  -- the chunk has a key
  abbrev pub has_key : List K → Bool
  has_key [] = false
  has_key (k ∷ ks) = true

  module _ (cmp : K → K → Ordering) where
    -- each chunk has a key, and the keys of all are in order
    abbrev pub AreChunks : List (List K) → Type 0
    AreChunks chunks = (list_all has_key chunks ≡ true) × IsStrictlySortedBy cmp (keys_in chunks)

    -- the chunk begins with the key, or with one below it
    abbrev pub starts_by : K → List K → Bool
    starts_by q [] = true
    starts_by q (k ∷ ks) = is_ge (cmp q k)

    -- the keys of the chunks are those before, this chunk's, and those after: the key can stand in this chunk alone
    pub record IsSplit (chunks : List (List K)) (q : K) (before : List (List K)) (chunk : List K)
        (after : List (List K)) : Type 0 where
      pub whole : keys_in chunks ≡ keys_in before ++ chunk ++ keys_in after
      pub full_before : list_all has_key before ≡ true
      pub full_after : list_all has_key after ≡ true
      pub ordered : IsStrictlySortedBy cmp chunk
      pub below : AllByRecursion (λ k. cmp q k ≡ Greater) (keys_in before)
      pub above : AllByRecursion (λ k. cmp q k ≡ Less) (keys_in after)
