-- A key in chunks: it can stand in one of them alone.
use Rattle.std.proofs.Common.{◌≡◌, ℕ, zero, suc, ◌+◌, ◌-◌, ◌<◌, ◌≤◌, Bool, true, false, cond, ◌&&◌, ◌||◌, List, [], ◌∷◌, ◌++◌, length, take, drop, refl, sym, ap, subst, ◌∙◌, arith, append_assoc}
use Rattle.std.specs.Prelude.{slice_index_or}
use Rattle.std.specs.List.{AllByRecursion, list_any, list_all}
use Rattle.std.specs.List.Sorted.{IsStrictlySortedBy}
use Rattle.std.specs.declared.cmp.Ordering.{Ordering}
use Rattle.std.specs.declared.cmp.Ordering.TheVariants.{Less, Equal, Greater}
use Rattle.std.specs.Ordering.{is_eq, is_ge, ordering_reverse, match_ordering}
use Rattle.std.specs.Cmp.{IsTotalOrder, first_so, second_so}
use Rattle.std.specs.Set.{remove_key}
use Rattle.std.specs.BTreeMap.{is_at}
use Rattle.std.specs.BTreeSet.{insert_key}
use Rattle.std.proofs.lemmas.Bool.{true≢false}
use Rattle.std.proofs.lemmas.List.{length-append}
use Rattle.std.proofs.lemmas.List.Folds.{list_any-append, list_all-append}
use Rattle.std.proofs.lemmas.List.Concat.{flat_map-append}
use Rattle.shared_map.specs.Chunks.{keys_in, has_key, AreChunks, starts_by, IsSplit}

less_from : (o : Ordering) → is_ge o ≡ false → o ≡ Less
less_from Less e = refl
less_from Equal e = absurd (true≢false e)
less_from Greater e = absurd (true≢false e)

-- PARTS OF LISTS

module _ {X : Type 0} (P : X → Type 0) where
  all_join : (xs ys : List X) → AllByRecursion P xs → AllByRecursion P ys → AllByRecursion P (xs ++ ys)
  all_join [] ys h g = g
  all_join (x ∷ xs) ys h g = (h.0, all_join xs ys h.1 g)

  all_front : (xs ys : List X) → AllByRecursion P (xs ++ ys) → AllByRecursion P xs
  all_front [] ys h = tt
  all_front (x ∷ xs) ys h = (h.0, all_front xs ys h.1)

  all_back : (xs ys : List X) → AllByRecursion P (xs ++ ys) → AllByRecursion P ys
  all_back [] ys h = h
  all_back (x ∷ xs) ys h = all_back xs ys h.1

module _ {K : Type 0} (cmp : K → K → Ordering) where
  pub sorted_front : (xs ys : List K) → IsStrictlySortedBy cmp (xs ++ ys) → IsStrictlySortedBy cmp xs
  unfolding IsStrictlySortedBy
  sorted_front [] ys h = tt
  sorted_front (x ∷ xs) ys h = (all_front (λ y. cmp x y ≡ Less) xs ys h.0, sorted_front xs ys h.1)

  pub sorted_back : (xs ys : List K) → IsStrictlySortedBy cmp (xs ++ ys) → IsStrictlySortedBy cmp ys
  unfolding IsStrictlySortedBy
  sorted_back [] ys h = h
  sorted_back (x ∷ xs) ys h = sorted_back xs ys h.1

  -- all of the first are below the head of the second
  below_head : (xs : List K) (y : K) (ys : List K) → IsStrictlySortedBy cmp (xs ++ y ∷ ys) →
      AllByRecursion (λ x. cmp x y ≡ Less) xs
  unfolding IsStrictlySortedBy
  below_head [] y ys h = tt
  below_head (x ∷ xs) y ys h = ((all_back (λ z. cmp x z ≡ Less) xs (y ∷ ys) h.0).0, below_head xs y ys h.1)

  module _ (total : IsTotalOrder cmp) where
    -- what is below one that is not above the key is below the key
    under : (q k x : K) → is_ge (cmp q k) ≡ true → cmp x k ≡ Less → cmp q x ≡ Greater
    under q k x ge less = by (cmp q k) refl ge
      where
        by : (o : Ordering) → cmp q k ≡ o → is_ge o ≡ true → cmp q x ≡ Greater
        by Less is e = absurd (true≢false (sym e))
        by Equal is e = total.congr q k x is ∙ total.antisymm k x ∙ ap ordering_reverse less
        by Greater is e = total.antisymm q x
            ∙ ap ordering_reverse (total.trans x k q less (total.antisymm k q ∙ ap ordering_reverse is))

    all_under : (q k : K) (xs : List K) → is_ge (cmp q k) ≡ true → AllByRecursion (λ x. cmp x k ≡ Less) xs →
        AllByRecursion (λ x. cmp q x ≡ Greater) xs
    all_under q k [] ge h = tt
    all_under q k (x ∷ xs) ge h = (under q k x ge h.0, all_under q k xs ge h.1)

    all_over : (q k : K) (ys : List K) → cmp q k ≡ Less → AllByRecursion (λ y. cmp k y ≡ Less) ys →
        AllByRecursion (λ y. cmp q y ≡ Less) ys
    all_over q k [] less h = tt
    all_over q k (y ∷ ys) less h = (total.trans q k y less h.0, all_over q k ys less h.1)

    -- where the first chunk does not begin by the key, all keys are above it
    pub above_from : (q : K) (c : List K) (cs : List (List K)) → has_key c ≡ true →
        IsStrictlySortedBy cmp (keys_in (c ∷ cs)) → starts_by cmp q c ≡ false →
        AllByRecursion (λ k. cmp q k ≡ Less) (keys_in (c ∷ cs))
    unfolding IsStrictlySortedBy
    above_from q [] cs full sorted starts = absurd (true≢false (sym full))
    above_from q (k ∷ ks) cs full sorted starts = let less = less_from (cmp q k) starts in
        (less, all_over q k (ks ++ keys_in cs) less sorted.0)

    -- where the next chunk begins by the key, all keys of this one are below it
    pub below_next : (q : K) (c d : List K) (ds : List (List K)) → has_key d ≡ true →
        IsStrictlySortedBy cmp (c ++ keys_in (d ∷ ds)) → starts_by cmp q d ≡ true →
        AllByRecursion (λ k. cmp q k ≡ Greater) c
    below_next q c [] ds full sorted starts = absurd (true≢false (sym full))
    below_next q c (k ∷ ks) ds full sorted starts = all_under q k c starts (below_head c k (ks ++ keys_in ds) sorted)

    -- WHERE THE SEARCH ENDS

    abbrev Starts : K → List (List K) → ℕ → Type 0
    Starts q cs past = (j : ℕ) (d : List K) → j < past → starts_by cmp q (slice_index_or cs j d) ≡ true

    abbrev StartsNot : K → List (List K) → ℕ → Type 0
    StartsNot q cs past = (j : ℕ) (d : List K) → past ≤ j → j < length cs →
        starts_by cmp q (slice_index_or cs j d) ≡ false

    pub no_chunks : (q : K) → IsSplit cmp [] q [] [] []
    unfolding IsStrictlySortedBy
    no_chunks q = record { whole = refl; full_before = refl; full_after = refl; ordered = tt; below = tt; above = tt }

    above_rest : (q : K) (cs : List (List K)) → AreChunks cmp cs → StartsNot q cs 0 →
        AllByRecursion (λ k. cmp q k ≡ Less) (keys_in cs)
    above_rest q [] are starts = tt
    above_rest q (c ∷ cs) are starts = above_from q c cs (first_so (has_key c) (list_all has_key cs) are.0) are.1
        (starts 0 c (omega arith) (omega arith))

    first_chunk : (q : K) (c : List K) (cs : List (List K)) → AreChunks cmp (c ∷ cs) →
        AllByRecursion (λ k. cmp q k ≡ Less) (keys_in cs) → IsSplit cmp (c ∷ cs) q [] c cs
    first_chunk q c cs are above = record {
      whole = refl;
      full_before = refl;
      full_after = second_so (has_key c) (list_all has_key cs) are.0;
      ordered = sorted_front c (keys_in cs) are.1;
      below = tt;
      above = above;
    }

    pub rest_are : (c : List K) (cs : List (List K)) → AreChunks cmp (c ∷ cs) → AreChunks cmp cs
    rest_are c cs are = (second_so (has_key c) (list_all has_key cs) are.0, sorted_back c (keys_in cs) are.1)

    both_full : (c : List K) (cs : List (List K)) → has_key c ≡ true → list_all has_key cs ≡ true →
        list_all has_key (c ∷ cs) ≡ true
    both_full c cs h g = λ i. h i && g i

    later_chunk : (q : K) (c : List K) (cs before : List (List K)) (chunk : List K) (after : List (List K)) →
        AreChunks cmp (c ∷ cs) → AllByRecursion (λ k. cmp q k ≡ Greater) c → IsSplit cmp cs q before chunk after →
        IsSplit cmp (c ∷ cs) q (c ∷ before) chunk after
    later_chunk q c cs before chunk after are below is = record {
      whole = ap (λ ks. c ++ ks) is.whole ∙ sym (append_assoc c (keys_in before ++ chunk) (keys_in after))
          ∙ ap (λ ks. ks ++ keys_in after) (sym (append_assoc c (keys_in before) chunk));
      full_before = both_full c before (first_so (has_key c) (list_all has_key cs) are.0) is.full_before;
      full_after = is.full_after;
      ordered = is.ordered;
      below = all_join (λ k. cmp q k ≡ Greater) c (keys_in before) below is.below;
      above = is.above;
    }

    -- chunks of keys above the key do not begin by it
    none_after : (q : K) (cs : List (List K)) → list_all has_key cs ≡ true →
        AllByRecursion (λ k. cmp q k ≡ Less) (keys_in cs) → (j : ℕ) (d : List K) → j < length cs →
        starts_by cmp q (slice_index_or cs j d) ≡ false
    none_after q [] full above j d lt = absurd (omega arith)
    none_after q ([] ∷ cs) full above zero d lt = absurd (true≢false (sym full))
    none_after q ((k ∷ ks) ∷ cs) full above zero d lt = ap is_ge above.0
    none_after q (c ∷ cs) full above (suc j) d lt = none_after q cs (second_so (has_key c) (list_all has_key cs) full)
        (all_back (λ k. cmp q k ≡ Less) c (keys_in cs) above) j d (omega arith)

    -- those that begin by the key come first
    pub parted : (q : K) (cs : List (List K)) → AreChunks cmp cs → (i j : ℕ) (d : List K) → i ≤ j → j < length cs →
        starts_by cmp q (slice_index_or cs j d) ≡ true → starts_by cmp q (slice_index_or cs i d) ≡ true
    parted q [] are i j d le lt is = absurd (omega arith)
    parted q (c ∷ cs) are zero zero d le lt is = is
    parted q (c ∷ cs) are zero (suc j) d le lt is = by (starts_by cmp q c) refl
      where
        by : (t : Bool) → starts_by cmp q c ≡ t → starts_by cmp q c ≡ true
        by true it = it
        by false it =
            let rest = rest_are c cs are in
            let above = above_from q c cs (first_so (has_key c) (list_all has_key cs) are.0) are.1 it in
            absurd (true≢false (sym is
            ∙ none_after q cs rest.0 (all_back (λ k. cmp q k ≡ Less) c (keys_in cs) above) j d (omega arith)))
    parted q (c ∷ cs) are (suc i) zero d le lt is = absurd (omega arith)
    parted q (c ∷ cs) are (suc i) (suc j) d le lt is =
        parted q cs (rest_are c cs are) i j d (omega arith) (omega arith) is

    -- the chunk before the first that does not begin by the key
    pub last_started : (q : K) (cs : List (List K)) (at : ℕ) (chunk : List K) (after : List (List K)) →
        drop at cs ≡ chunk ∷ after → AreChunks cmp cs → Starts q cs (at + 1) → StartsNot q cs (at + 1) →
        IsSplit cmp cs q (take at cs) chunk after
    last_started q [] zero chunk after is are starts stop = cc
    last_started q [] (suc at) chunk after is are starts stop = cc
    last_started q (c ∷ cs) zero chunk after is are starts stop =
        let above : AllByRecursion (λ k. cmp q k ≡ Less) (keys_in cs) =
        above_rest q cs (rest_are c cs are) (λ j e le lt. stop (suc j) e (omega arith) (omega arith)) in
        both (c ∷ cs) is are above
      where
        both : (cs' : List (List K)) → cs' ≡ chunk ∷ after → AreChunks cmp cs' →
            AllByRecursion (λ k. cmp q k ≡ Less) (keys_in (drop 1 cs')) → IsSplit cmp cs' q [] chunk after
        both cs' is' are' above' =
            subst (λ x. IsSplit cmp x q [] chunk after) (sym is')
            (first_chunk q chunk after (subst (λ x. AreChunks cmp x) is' are')
            (subst (λ x. AllByRecursion (λ k. cmp q k ≡ Less) (keys_in (drop 1 x))) is' above'))
    last_started q (c ∷ []) (suc zero) chunk after is are starts stop = cc
    last_started q (c ∷ []) (suc (suc at)) chunk after is are starts stop = cc
    last_started q (c ∷ d ∷ cs) (suc at) chunk after is are starts stop =
        let rest = rest_are c (d ∷ cs) are in
        let below = below_next q c d cs (first_so (has_key d) (list_all has_key cs) rest.0) are.1
        (starts 1 d (omega arith)) in
        later_chunk q c (d ∷ cs) (take at (d ∷ cs)) chunk after are below
        (last_started q (d ∷ cs) at chunk after is rest (λ j e lt. starts (suc j) e (omega arith))
        (λ j e le lt. stop (suc j) e (omega arith) (omega arith)))

    -- the first chunk, where none begins by the key
    pub none_started : (q : K) (cs : List (List K)) (chunk : List K) (after : List (List K)) → cs ≡ chunk ∷ after →
        AreChunks cmp cs → StartsNot q cs 0 → IsSplit cmp cs q [] chunk after
    none_started q cs chunk after is are stop =
        let are' : AreChunks cmp (chunk ∷ after) = subst (λ x. AreChunks cmp x) is are in
        let above : AllByRecursion (λ k. cmp q k ≡ Less) (keys_in (chunk ∷ after)) =
        subst (λ x. AllByRecursion (λ k. cmp q k ≡ Less) (keys_in x)) is (above_rest q cs are stop) in
        subst (λ x. IsSplit cmp x q [] chunk after) (sym is)
        (first_chunk q chunk after are' (all_back (λ k. cmp q k ≡ Less) chunk (keys_in after) above))

    -- where the search ended, with what is read there
    pub chunk_at : (q : K) (cs : List (List K)) (past : ℕ) → AreChunks cmp cs → Starts q cs past → StartsNot q cs past →
        (before rest : List (List K)) → before ≡ take (past - 1) cs → rest ≡ drop (past - 1) cs →
        (chunk : List K) (after : List (List K)) → rest ≡ chunk ∷ after → IsSplit cmp cs q before chunk after
    chunk_at q cs zero are starts stop before rest front back chunk after is =
        subst (λ b. IsSplit cmp cs q b chunk after) (sym front) (none_started q cs chunk after (sym back ∙ is) are stop)
    chunk_at q cs (suc past) are starts stop before rest front back chunk after is =
        let at : suc past - 1 ≡ past = omega arith in
        let next : suc past ≡ past + 1 = omega arith in
        let back' : drop past cs ≡ chunk ∷ after = ap (λ n. drop n cs) (sym at) ∙ sym back ∙ is in
        subst (λ b. IsSplit cmp cs q b chunk after) (sym (front ∙ ap (λ n. take n cs) at))
        (last_started q cs past chunk after back' are (λ j d lt. starts j d (omega arith))
        (λ j d le lt. stop j d (omega arith) lt))

    -- where nothing is read there, there is no chunk
    pub no_chunk : (q : K) (cs : List (List K)) (past : ℕ) → past ≤ length cs → (before rest : List (List K)) →
        before ≡ take (past - 1) cs → rest ≡ drop (past - 1) cs → length rest + (past - 1) ≡ length cs →
        length rest ≡ 0 → IsSplit cmp cs q before [] rest
    no_chunk q [] past le before rest front back lengths none =
        let z : past ≡ 0 = omega (arith, le) in
        let front' : before ≡ [] = front ∙ ap (λ n. take (n - 1) []) z in
        let back' : rest ≡ [] = back ∙ ap (λ n. drop (n - 1) []) z in
        subst (λ b. IsSplit cmp [] q b [] rest) (sym front')
        (subst (λ r. IsSplit cmp [] q [] [] r) (sym back') (no_chunks q))
    no_chunk q (c ∷ cs) past le before rest front back lengths none = absurd (omega (arith, le, lengths, none))

  -- A KEY PUT IN, TAKEN OUT, LOOKED FOR

  put_past : (q : K) (xs ys : List K) → AllByRecursion (λ k. cmp q k ≡ Greater) xs →
      insert_key cmp (xs ++ ys) q ≡ xs ++ insert_key cmp ys q
  put_past q [] ys h = refl
  put_past q (x ∷ xs) ys h =
      ap (λ o. match_ordering o (q ∷ x ∷ (xs ++ ys)) (x ∷ (xs ++ ys)) (x ∷ insert_key cmp (xs ++ ys) q)) h.0
      ∙ ap (λ l. x ∷ l) (put_past q xs ys h.1)

  put_before : (q : K) (xs ys : List K) → AllByRecursion (λ k. cmp q k ≡ Less) ys →
      insert_key cmp (xs ++ ys) q ≡ insert_key cmp xs q ++ ys
  put_before q [] [] h = refl
  put_before q [] (y ∷ ys) h = ap (λ o. match_ordering o (q ∷ y ∷ ys) (y ∷ ys) (y ∷ insert_key cmp ys q)) h.0
  put_before q (x ∷ xs) ys h = by (cmp q x) (put_before q xs ys h)
    where
      by : (o : Ordering) → insert_key cmp (xs ++ ys) q ≡ insert_key cmp xs q ++ ys →
          match_ordering o (q ∷ x ∷ (xs ++ ys)) (x ∷ (xs ++ ys)) (x ∷ insert_key cmp (xs ++ ys) q)
          ≡ match_ordering o (q ∷ x ∷ xs) (x ∷ xs) (x ∷ insert_key cmp xs q) ++ ys
      by Less rest = refl
      by Equal rest = refl
      by Greater rest = ap (λ l. x ∷ l) rest

  left_past : (q : K) (xs ys : List K) → AllByRecursion (λ k. cmp q k ≡ Greater) xs →
      remove_key (is_at (cmp q)) (xs ++ ys) ≡ xs ++ remove_key (is_at (cmp q)) ys
  left_past q [] ys h = refl
  left_past q (x ∷ xs) ys h = ap (λ o. cond (is_eq o) (xs ++ ys) (x ∷ remove_key (is_at (cmp q)) (xs ++ ys))) h.0
      ∙ ap (λ l. x ∷ l) (left_past q xs ys h.1)

  left_none : (q : K) (ys : List K) → AllByRecursion (λ k. cmp q k ≡ Less) ys → remove_key (is_at (cmp q)) ys ≡ ys
  left_none q [] h = refl
  left_none q (y ∷ ys) h = ap (λ o. cond (is_eq o) ys (y ∷ remove_key (is_at (cmp q)) ys)) h.0
      ∙ ap (λ l. y ∷ l) (left_none q ys h.1)

  left_before : (q : K) (xs ys : List K) → AllByRecursion (λ k. cmp q k ≡ Less) ys →
      remove_key (is_at (cmp q)) (xs ++ ys) ≡ remove_key (is_at (cmp q)) xs ++ ys
  left_before q [] ys h = left_none q ys h
  left_before q (x ∷ xs) ys h = by (is_at (cmp q) x) (left_before q xs ys h)
    where
      by : (t : Bool) → remove_key (is_at (cmp q)) (xs ++ ys) ≡ remove_key (is_at (cmp q)) xs ++ ys →
          cond t (xs ++ ys) (x ∷ remove_key (is_at (cmp q)) (xs ++ ys)) ≡ cond t xs (x ∷ remove_key (is_at (cmp q)) xs)
          ++ ys
      by true rest = refl
      by false rest = ap (λ l. x ∷ l) rest

  none_at : (q : K) (o : Ordering) (xs : List K) → is_eq o ≡ false → AllByRecursion (λ k. cmp q k ≡ o) xs →
      list_any (is_at (cmp q)) xs ≡ false
  none_at q o [] other h = refl
  none_at q o (x ∷ xs) other h = λ i. (ap is_eq h.0 ∙ other) i || none_at q o xs other h.1 i

  module _ (cs : List (List K)) (q : K) (before : List (List K)) (chunk : List K) (after : List (List K))
      (split : IsSplit cmp cs q before chunk after) where
    pub put_in_one : insert_key cmp (keys_in cs) q ≡ keys_in before ++ insert_key cmp chunk q ++ keys_in after
    put_in_one =
        ap (λ ks. insert_key cmp ks q) split.whole
        ∙ put_before q (keys_in before ++ chunk) (keys_in after) split.above
        ∙ ap (λ ks. ks ++ keys_in after) (put_past q (keys_in before) chunk split.below)

    pub left_in_one : remove_key (is_at (cmp q)) (keys_in cs) ≡ keys_in before ++ remove_key (is_at (cmp q)) chunk
        ++ keys_in after
    left_in_one =
        ap (remove_key (is_at (cmp q))) split.whole
        ∙ left_before q (keys_in before ++ chunk) (keys_in after) split.above
        ∙ ap (λ ks. ks ++ keys_in after) (left_past q (keys_in before) chunk split.below)

    -- the length with other keys in the chunk
    pub len_with_others : (l : ℕ) (others : List K) → l + length chunk ≡ length (keys_in cs) + length others →
        l ≡ length (keys_in before ++ others ++ keys_in after)
    len_with_others l others is =
        let whole : length (keys_in cs) ≡ length (keys_in before) + length chunk + length (keys_in after) =
        ap length split.whole ∙ length-append (keys_in before ++ chunk) (keys_in after)
        ∙ ap (λ n. n + length (keys_in after)) (length-append (keys_in before) chunk) in
        let new : length (keys_in before ++ others ++ keys_in after) ≡ length (keys_in before) + length others
        + length (keys_in after) =
        length-append (keys_in before ++ others) (keys_in after)
        ∙ ap (λ n. n + length (keys_in after)) (length-append (keys_in before) others) in
        omega (arith, is, whole, new)

    -- the chunk is no longer than all
    pub chunk_within : length chunk ≤ length (keys_in cs)
    chunk_within =
        let whole : length (keys_in cs) ≡ length (keys_in before) + length chunk + length (keys_in after) =
        ap length split.whole ∙ length-append (keys_in before ++ chunk) (keys_in after)
        ∙ ap (λ n. n + length (keys_in after)) (length-append (keys_in before) chunk) in
        omega (arith, whole)

    pub found_in_one : list_any (is_at (cmp q)) (keys_in cs) ≡ list_any (is_at (cmp q)) chunk
    found_in_one =
        ap (list_any (is_at (cmp q))) split.whole
        ∙ list_any-append (is_at (cmp q)) (keys_in before ++ chunk) (keys_in after)
        ∙ ap (λ t. t || list_any (is_at (cmp q)) (keys_in after))
        (list_any-append (is_at (cmp q)) (keys_in before) chunk)
        ∙ (λ i. (none_at q Greater (keys_in before) refl split.below i || list_any (is_at (cmp q)) chunk)
        || none_at q Less (keys_in after) refl split.above i)
        ∙ or_false (list_any (is_at (cmp q)) chunk)
      where
        or_false : (t : Bool) → (t || false) ≡ t
        or_false true = refl
        or_false false = refl

-- CHUNKS ONE AFTER ANOTHER

module _ {K : Type 0} where
  pub full_append : (xs ys : List (List K)) → list_all has_key xs ≡ true → list_all has_key ys ≡ true →
      list_all has_key (xs ++ ys) ≡ true
  full_append xs ys h g = list_all-append has_key xs ys ∙ (λ i. h i && g i)

  pub keys_append : (xs ys : List (List K)) → keys_in (xs ++ ys) ≡ keys_in xs ++ keys_in ys
  keys_append xs ys = flat_map-append (λ ks. ks) xs ys
