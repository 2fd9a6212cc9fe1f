-- Entries in chunks: a key can stand in one of them alone, which is changed for all.
use Rattle.std.proofs.Common.{◌≡◌, ℕ, zero, suc, ◌+◌, ◌-◌, ◌<◌, ◌≤◌, ◌==◌, ◌&&◌, Bool, true, false, cond, List, [], ◌∷◌, ◌++◌, map, length, set, Some, None, refl, sym, ap, subst, ◌∙◌, arith, append_assoc}
use Rattle.std.specs.Prelude.{slice_get, slice_index_or, unwrap_or, is_some}
use Rattle.std.specs.List.{AllByRecursion, insert, remove, list_all}
use Rattle.std.specs.List.Sorted.{IsStrictlySortedBy}
use Rattle.std.specs.declared.cmp.Ordering.{Ordering}
use Rattle.std.specs.declared.cmp.Ordering.TheVariants.{Less, Equal, Greater}
use Rattle.std.specs.Ordering.{is_eq, match_ordering}
use Rattle.std.specs.Cmp.{IsTotalOrder, unsigned_Decides, first_so, second_so}
use Rattle.std.specs.Map.{keys_of, lookup, remove_entry}
use Rattle.std.specs.BTreeMap.{insert_entry, is_at}
use Rattle.std.proofs.lemmas.Bool.{true≢false}
use Rattle.std.proofs.lemmas.List.{append-nil, map-append}
use Rattle.shared_map.specs.Chunks.{keys_in, has_key, AreChunks, starts_by}
use Rattle.shared_map.specs.EntryChunks.{entries_in, AreEntryChunks, IsPlace}
use Rattle.shared_map.proofs.InOrder.{entries_in_order, entries_left_in_order}
use Rattle.shared_map.proofs.Splits.{above_from, below_next, rest_are, parted}

both_full : {K : Type 0} (ks : List K) (kss : List (List K)) → has_key ks ≡ true → list_all has_key kss ≡ true →
    list_all has_key (ks ∷ kss) ≡ true
both_full ks kss h g = λ i. h i && g i

pub none_counted : {X : Type 0} (xs : List X) → (length xs == 0) ≡ true → xs ≡ []
none_counted [] none = refl
none_counted (x ∷ xs) none = absurd (omega (arith, (unsigned_Decides (length (x ∷ xs)) 0).0 none))

module _ {K V : Type 0} where
  -- the keys of all entries are those of all chunks
  pub same_keys : (cs : List (List (K × V))) → keys_of (entries_in cs) ≡ keys_in (map keys_of cs)
  same_keys [] = refl
  same_keys (c ∷ cs) = map-append (λ e. e.0) c (entries_in cs) ∙ ap (λ ks. keys_of c ++ ks) (same_keys cs)

  -- where there is no entry, there is no chunk
  pub no_chunks : (cs : List (List (K × V))) → list_all has_key (map keys_of cs) ≡ true → entries_in cs ≡ [] → cs ≡ []
  no_chunks [] full none = refl
  no_chunks ([] ∷ cs) full none = absurd (true≢false (sym full))
  no_chunks ((e ∷ es) ∷ cs) full none = cc

  -- where there is a chunk, there is an entry
  pub some_entry : (cs : List (List (K × V))) → list_all has_key (map keys_of cs) ≡ true → (length cs == 0) ≡ false →
      0 < length (entries_in cs)
  some_entry [] full some = absurd (true≢false some)
  some_entry ([] ∷ cs) full some = absurd (true≢false (sym full))
  some_entry ((e ∷ es) ∷ cs) full some = omega arith

  -- what is read of the keys of a chunk is what is read of it
  keys_at : (cs : List (List (K × V))) (j : ℕ) (d : List (K × V)) → slice_index_or (map keys_of cs) j (keys_of d)
      ≡ keys_of (slice_index_or cs j d)
  keys_at [] j d = refl
  keys_at (c ∷ cs) zero d = refl
  keys_at (c ∷ cs) (suc j) d = keys_at cs j d

  as_long : (cs : List (List (K × V))) → length (map keys_of cs) ≡ length cs
  as_long [] = refl
  as_long (c ∷ cs) = ap suc (as_long cs)

  module _ (cmp : K → K → Ordering) (q : K) where
    -- AN ENTRY PUT IN, TAKEN OUT, LOOKED FOR

    put_past : (v : V) (xs ys : List (K × V)) → AllByRecursion (λ k. cmp q k ≡ Greater) (keys_of xs) →
        insert_entry cmp (xs ++ ys) q v ≡ xs ++ insert_entry cmp ys q v
    put_past v [] ys h = refl
    put_past v (x ∷ xs) ys h =
        ap (λ o. match_ordering o ((q, v) ∷ x ∷ (xs ++ ys)) ((x.0, v) ∷ (xs ++ ys))
        (x ∷ insert_entry cmp (xs ++ ys) q v)) h.0 ∙ ap (λ l. x ∷ l) (put_past v xs ys h.1)

    put_before : (v : V) (xs ys : List (K × V)) → AllByRecursion (λ k. cmp q k ≡ Less) (keys_of ys) →
        insert_entry cmp (xs ++ ys) q v ≡ insert_entry cmp xs q v ++ ys
    put_before v [] [] h = refl
    put_before v [] (y ∷ ys) h =
        ap (λ o. match_ordering o ((q, v) ∷ y ∷ ys) ((y.0, v) ∷ ys) (y ∷ insert_entry cmp ys q v)) h.0
    put_before v (x ∷ xs) ys h = by (cmp q x.0) (put_before v xs ys h)
      where
        by : (o : Ordering) → insert_entry cmp (xs ++ ys) q v ≡ insert_entry cmp xs q v ++ ys →
            match_ordering o ((q, v) ∷ x ∷ (xs ++ ys)) ((x.0, v) ∷ (xs ++ ys)) (x ∷ insert_entry cmp (xs ++ ys) q v)
            ≡ match_ordering o ((q, v) ∷ x ∷ xs) ((x.0, v) ∷ xs) (x ∷ insert_entry cmp xs q v) ++ ys
        by Less rest = refl
        by Equal rest = refl
        by Greater rest = ap (λ l. x ∷ l) rest

    left_past : (xs ys : List (K × V)) → AllByRecursion (λ k. cmp q k ≡ Greater) (keys_of xs) →
        remove_entry (is_at (cmp q)) (xs ++ ys) ≡ xs ++ remove_entry (is_at (cmp q)) ys
    left_past [] ys h = refl
    left_past (x ∷ xs) ys h = ap (λ o. cond (is_eq o) (xs ++ ys) (x ∷ remove_entry (is_at (cmp q)) (xs ++ ys))) h.0
        ∙ ap (λ l. x ∷ l) (left_past xs ys h.1)

    left_none : (ys : List (K × V)) → AllByRecursion (λ k. cmp q k ≡ Less) (keys_of ys) →
        remove_entry (is_at (cmp q)) ys ≡ ys
    left_none [] h = refl
    left_none (y ∷ ys) h = ap (λ o. cond (is_eq o) ys (y ∷ remove_entry (is_at (cmp q)) ys)) h.0
        ∙ ap (λ l. y ∷ l) (left_none ys h.1)

    left_before : (xs ys : List (K × V)) → AllByRecursion (λ k. cmp q k ≡ Less) (keys_of ys) →
        remove_entry (is_at (cmp q)) (xs ++ ys) ≡ remove_entry (is_at (cmp q)) xs ++ ys
    left_before [] ys h = left_none ys h
    left_before (x ∷ xs) ys h = by (is_at (cmp q) x.0) (left_before xs ys h)
      where
        by : (t : Bool) → remove_entry (is_at (cmp q)) (xs ++ ys) ≡ remove_entry (is_at (cmp q)) xs ++ ys →
            cond t (xs ++ ys) (x ∷ remove_entry (is_at (cmp q)) (xs ++ ys))
            ≡ cond t xs (x ∷ remove_entry (is_at (cmp q)) xs) ++ ys
        by true rest = refl
        by false rest = ap (λ l. x ∷ l) rest

    found_past : (xs ys : List (K × V)) → AllByRecursion (λ k. cmp q k ≡ Greater) (keys_of xs) →
        lookup (is_at (cmp q)) (xs ++ ys) ≡ lookup (is_at (cmp q)) ys
    found_past [] ys h = refl
    found_past (x ∷ xs) ys h = ap (λ o. cond (is_eq o) (Some x.1) (lookup (is_at (cmp q)) (xs ++ ys))) h.0
        ∙ found_past xs ys h.1

    found_none : (ys : List (K × V)) → AllByRecursion (λ k. cmp q k ≡ Less) (keys_of ys) →
        lookup (is_at (cmp q)) ys ≡ None
    found_none [] h = refl
    found_none (y ∷ ys) h = ap (λ o. cond (is_eq o) (Some y.1) (lookup (is_at (cmp q)) ys)) h.0 ∙ found_none ys h.1

    found_before : (xs ys : List (K × V)) → AllByRecursion (λ k. cmp q k ≡ Less) (keys_of ys) →
        lookup (is_at (cmp q)) (xs ++ ys) ≡ lookup (is_at (cmp q)) xs
    found_before [] ys h = found_none ys h
    found_before (x ∷ xs) ys h = ap (cond (is_at (cmp q) x.0) (Some x.1)) (found_before xs ys h)

    -- THE CHUNK OF THE KEY

    abbrev Starts : List (List (K × V)) → ℕ → Type 0
    Starts cs past = (j : ℕ) (d : List (K × V)) → j < past → starts_by cmp q (keys_of (slice_index_or cs j d)) ≡ true

    abbrev StartsNot : List (List (K × V)) → ℕ → Type 0
    StartsNot cs past = (j : ℕ) (d : List (K × V)) → past ≤ j → j < length cs →
        starts_by cmp q (keys_of (slice_index_or cs j d)) ≡ false

    -- the first chunk, where all after it are above the key
    first_place : (c : List (K × V)) (cs : List (List (K × V))) →
        AllByRecursion (λ k. cmp q k ≡ Less) (keys_of (entries_in cs)) → IsPlace cmp (c ∷ cs) q 0
    first_place c cs above = record {
      in_range = omega arith;
      value = λ es is. ap (λ o. lookup (is_at (cmp q)) (unwrap_or o es)) (sym is)
          ∙ sym (found_before c (entries_in cs) above);
      put = λ v es is. ap (λ o. insert_entry cmp (unwrap_or o es) q v ++ entries_in cs) (sym is)
          ∙ sym (put_before v c (entries_in cs) above);
      taken = λ es is. ap (λ o. remove_entry (is_at (cmp q)) (unwrap_or o es) ++ entries_in cs) (sym is)
          ∙ sym (left_before c (entries_in cs) above);
    }

    -- a chunk after one that is below the key
    later_place : (c : List (K × V)) (cs : List (List (K × V))) (at : ℕ) →
        AllByRecursion (λ k. cmp q k ≡ Greater) (keys_of c) → IsPlace cmp cs q at → IsPlace cmp (c ∷ cs) q (suc at)
    later_place c cs at below rest = record {
      in_range = omega (arith, rest.in_range);
      value = λ es is. rest.value es is ∙ sym (found_past c (entries_in cs) below);
      put = λ v es is. ap (λ l. c ++ l) (rest.put v es is) ∙ sym (put_past v c (entries_in cs) below);
      taken = λ es is. ap (λ l. c ++ l) (rest.taken es is) ∙ sym (left_past c (entries_in cs) below);
    }

    module _ (total : IsTotalOrder cmp) where
      pub entries_parted : (cs : List (List (K × V))) → AreEntryChunks cmp cs → (i j : ℕ) (d : List (K × V)) → i ≤ j →
          j < length cs → starts_by cmp q (keys_of (slice_index_or cs j d)) ≡ true →
          starts_by cmp q (keys_of (slice_index_or cs i d)) ≡ true
      entries_parted cs are i j d le lt is =
          ap (starts_by cmp q) (sym (keys_at cs i d))
          ∙ parted cmp total q (map keys_of cs) are i j (keys_of d) le (omega (arith, as_long cs))
          (ap (starts_by cmp q) (keys_at cs j d) ∙ is)

      above_rest : (cs : List (List (K × V))) → AreEntryChunks cmp cs → StartsNot cs 0 →
          AllByRecursion (λ k. cmp q k ≡ Less) (keys_of (entries_in cs))
      above_rest [] are stop = tt
      above_rest (c ∷ cs) are stop =
          subst (AllByRecursion (λ k. cmp q k ≡ Less)) (sym (same_keys (c ∷ cs)))
          (above_from cmp total q (keys_of c) (map keys_of cs)
          (first_so (has_key (keys_of c)) (list_all has_key (map keys_of cs)) are.0) are.1
          (stop 0 c (omega arith) (omega arith)))

      place_at : (cs : List (List (K × V))) (at : ℕ) → at < length cs → AreEntryChunks cmp cs → Starts cs (at + 1) →
          StartsNot cs (at + 1) → IsPlace cmp cs q at
      place_at [] at lt are starts stop = absurd (omega arith)
      place_at (c ∷ cs) zero lt are starts stop =
          first_place c cs (above_rest cs (rest_are cmp total (keys_of c) (map keys_of cs) are)
          (λ j d le lt. stop (suc j) d (omega arith) (omega arith)))
      place_at (c ∷ []) (suc at) lt are starts stop = absurd (omega arith)
      place_at (c ∷ d ∷ cs) (suc at) lt are starts stop =
          let rest = rest_are cmp total (keys_of c) (map keys_of (d ∷ cs)) are in
          let below = below_next cmp total q (keys_of c) (keys_of d) (map keys_of cs)
          (first_so (has_key (keys_of d)) (list_all has_key (map keys_of cs)) rest.0) are.1
          (starts 1 d (omega arith)) in
          later_place c (d ∷ cs) at below
          (place_at (d ∷ cs) at (omega arith) rest (λ j e lt. starts (suc j) e (omega arith))
          (λ j e le lt. stop (suc j) e (omega arith) (omega arith)))

      -- where the search ended
      pub place_found : (cs : List (List (K × V))) (past : ℕ) → 0 < length cs → past ≤ length cs →
          AreEntryChunks cmp cs → Starts cs past → StartsNot cs past → IsPlace cmp cs q (past - 1)
      place_found [] past some le are starts stop = absurd (omega arith)
      place_found (c ∷ cs) zero some le are starts stop =
          first_place c cs (above_rest cs (rest_are cmp total (keys_of c) (map keys_of cs) are)
          (λ j d le lt. stop (suc j) d (omega arith) (omega arith)))
      place_found (c ∷ cs) (suc past) some le are starts stop =
          let at : past ≡ suc past - 1 = omega arith in
          subst (IsPlace cmp (c ∷ cs) q) at
          (place_at (c ∷ cs) past (omega arith) are (λ j d lt. starts j d (omega arith))
          (λ j d le lt. stop j d (omega arith) lt))

  -- CHUNKS THAT CHANGE

  full_set : (cs : List (List (K × V))) (at : ℕ) (es : List (K × V)) → has_key (keys_of es) ≡ true →
      list_all has_key (map keys_of cs) ≡ true → list_all has_key (map keys_of (set cs at es)) ≡ true
  full_set [] at es some full = full
  full_set (c ∷ cs) zero es some full =
      both_full (keys_of es) (map keys_of cs) some
      (second_so (has_key (keys_of c)) (list_all has_key (map keys_of cs)) full)
  full_set (c ∷ cs) (suc at) es some full = both_full (keys_of c) (map keys_of (set cs at es))
      (first_so (has_key (keys_of c)) (list_all has_key (map keys_of cs)) full)
      (full_set cs at es some (second_so (has_key (keys_of c)) (list_all has_key (map keys_of cs)) full))

  full_remove : (cs : List (List (K × V))) (at : ℕ) → list_all has_key (map keys_of cs) ≡ true →
      list_all has_key (map keys_of (remove cs at)) ≡ true
  full_remove [] zero full = full
  full_remove [] (suc at) full = full
  full_remove (c ∷ cs) zero full = second_so (has_key (keys_of c)) (list_all has_key (map keys_of cs)) full
  full_remove (c ∷ cs) (suc at) full = both_full (keys_of c) (map keys_of (remove cs at))
      (first_so (has_key (keys_of c)) (list_all has_key (map keys_of cs)) full)
      (full_remove cs at (second_so (has_key (keys_of c)) (list_all has_key (map keys_of cs)) full))

  -- a chunk put in its own place changes nothing
  pub set_same : (cs : List (List (K × V))) (at : ℕ) (es : List (K × V)) → slice_get cs at ≡ Some es → set cs at es ≡ cs
  set_same [] at es is = refl
  set_same (c ∷ cs) zero es is = ap (λ o. unwrap_or o es ∷ cs) (sym is)
  set_same (c ∷ cs) (suc at) es is = ap (λ l. c ∷ l) (set_same cs at es is)

  -- a chunk without entries may be left out
  pub removed_empty : (cs : List (List (K × V))) (at : ℕ) → at < length cs →
      entries_in (remove cs at) ≡ entries_in (set cs at [])
  removed_empty [] at lt = absurd (omega arith)
  removed_empty (c ∷ cs) zero lt = refl
  removed_empty (c ∷ cs) (suc at) lt = ap (λ es. c ++ es) (removed_empty cs at (omega arith))

  -- a chunk may be cut in two
  pub halved : (cs : List (List (K × V))) (at : ℕ) (c front back : List (K × V)) → slice_get cs at ≡ Some c →
      front ++ back ≡ c → entries_in (set (insert cs (suc at) back) at front) ≡ entries_in cs
  halved [] at c front back is whole = cc
  halved (x ∷ cs) zero c front back is whole = sym (append_assoc front back (entries_in cs))
      ∙ ap (λ es. es ++ entries_in cs) (whole ∙ ap (λ o. unwrap_or o x) (sym is))
  halved (x ∷ cs) (suc at) c front back is whole = ap (λ es. x ++ es) (halved cs at c front back is whole)

  full_halved : (cs : List (List (K × V))) (at : ℕ) (front back : List (K × V)) → at < length cs →
      has_key (keys_of front) ≡ true → has_key (keys_of back) ≡ true → list_all has_key (map keys_of cs) ≡ true →
      list_all has_key (map keys_of (set (insert cs (suc at) back) at front)) ≡ true
  full_halved [] at front back lt some some' full = absurd (omega arith)
  full_halved (c ∷ cs) zero front back lt some some' full =
      both_full (keys_of front) (keys_of back ∷ map keys_of cs) some
      (both_full (keys_of back) (map keys_of cs) some'
      (second_so (has_key (keys_of c)) (list_all has_key (map keys_of cs)) full))
  full_halved (c ∷ cs) (suc at) front back lt some some' full =
      both_full (keys_of c) (map keys_of (set (insert cs (suc at) back) at front))
      (first_so (has_key (keys_of c)) (list_all has_key (map keys_of cs)) full)
      (full_halved cs at front back (omega arith) some some'
      (second_so (has_key (keys_of c)) (list_all has_key (map keys_of cs)) full))

  -- an entry alone leaves none
  pub alone_left : (test : K → Bool) (es : List (K × V)) → length es ≤ 1 → is_some (lookup test es) ≡ true →
      remove_entry test es ≡ []
  alone_left test [] le some = refl
  alone_left test (e ∷ []) le some = by (test e.0) some
    where
      by : (b : Bool) → is_some (cond b (Some e.1) None) ≡ true → cond b [] (e ∷ []) ≡ []
      by true there = refl
      by false there = absurd (true≢false (sym there))
  alone_left test (e ∷ f ∷ es) le some = absurd (omega arith)

  has_key_from : (es : List (K × V)) → 0 < length es → has_key (keys_of es) ≡ true
  has_key_from [] some = absurd (omega arith)
  has_key_from (e ∷ es) some = refl

  put_has_key : (cmp : K → K → Ordering) (es : List (K × V)) (q : K) (v : V) →
      has_key (keys_of (insert_entry cmp es q v)) ≡ true
  put_has_key cmp [] q v = refl
  put_has_key cmp (e ∷ es) q v = by (cmp q e.0)
    where
      by : (o : Ordering) → has_key
          (keys_of (match_ordering o ((q, v) ∷ e ∷ es) ((e.0, v) ∷ es) (e ∷ insert_entry cmp es q v))) ≡ true
      by Less = refl
      by Equal = refl
      by Greater = refl

  left_has_key : (test : K → Bool) (es : List (K × V)) → 1 < length es → has_key (keys_of (remove_entry test es)) ≡ true
  left_has_key test [] some = absurd (omega arith)
  left_has_key test (e ∷ []) some = absurd (omega arith)
  left_has_key test (e ∷ f ∷ es) some = by (test e.0)
    where
      by : (b : Bool) → has_key (keys_of (cond b (f ∷ es) (e ∷ remove_entry test (f ∷ es)))) ≡ true
      by true = refl
      by false = refl

  module _ (cmp : K → K → Ordering) (total : IsTotalOrder cmp) (cs : List (List (K × V)))
      (are : AreEntryChunks cmp cs) where
    in_order : IsStrictlySortedBy cmp (keys_of (entries_in cs))
    in_order = subst (IsStrictlySortedBy cmp) (sym (same_keys cs)) are.1

    pub put_are : (q : K) (v : V) (at : ℕ) (es : List (K × V)) (new : List (List (K × V))) → IsPlace cmp cs q at →
        slice_get cs at ≡ Some es → new ≡ set cs at (insert_entry cmp es q v) → AreEntryChunks cmp new
    put_are q v at es new place is same =
        subst (AreEntryChunks cmp) (sym same) (
          full_set cs at (insert_entry cmp es q v) (put_has_key cmp es q v) are.0,
          subst (IsStrictlySortedBy cmp) (same_keys (set cs at (insert_entry cmp es q v)))
              (entries_in_order cmp total q v (entries_in cs) (entries_in (set cs at (insert_entry cmp es q v)))
              (place.put v es is) in_order),
        )

    pub taken_are : (q : K) (at : ℕ) (es : List (K × V)) (new : List (List (K × V))) → IsPlace cmp cs q at →
        slice_get cs at ≡ Some es → 1 < length es → new ≡ set cs at (remove_entry (is_at (cmp q)) es) →
        AreEntryChunks cmp new
    taken_are q at es new place is many same =
        subst (AreEntryChunks cmp) (sym same) (
          full_set cs at (remove_entry (is_at (cmp q)) es) (left_has_key (is_at (cmp q)) es many) are.0,
          subst (IsStrictlySortedBy cmp) (same_keys (set cs at (remove_entry (is_at (cmp q)) es)))
              (entries_left_in_order cmp (is_at (cmp q)) (entries_in cs)
              (entries_in (set cs at (remove_entry (is_at (cmp q)) es))) (place.taken es is) in_order),
        )

    pub halved_are : (at : ℕ) (c front back : List (K × V)) (new : List (List (K × V))) → slice_get cs at ≡ Some c →
        at < length cs → front ++ back ≡ c → 0 < length front → 0 < length back →
        new ≡ set (insert cs (suc at) back) at front → AreEntryChunks cmp new
    halved_are at c front back new is lt whole some some' same =
        let cut : List (List (K × V)) = set (insert cs (suc at) back) at front in
        subst (AreEntryChunks cmp) (sym same) (
          full_halved cs at front back lt (has_key_from front some) (has_key_from back some') are.0,
          subst (IsStrictlySortedBy cmp) (ap keys_of (sym (halved cs at c front back is whole))
              ∙ same_keys cut) in_order,
        )

    -- the chunk of an entry alone is left out
    pub removed_entries : (q : K) (at : ℕ) (es : List (K × V)) (new : List (List (K × V))) → IsPlace cmp cs q at →
        slice_get cs at ≡ Some es → remove_entry (is_at (cmp q)) es ≡ [] → new ≡ remove cs at →
        entries_in new ≡ remove_entry (is_at (cmp q)) (entries_in cs)
    removed_entries q at es new place is none same =
        ap entries_in same
        ∙ removed_empty cs at place.in_range
        ∙ ap (λ x. entries_in (set cs at x)) (sym none)
        ∙ place.taken es is

    pub removed_are : (q : K) (at : ℕ) (es : List (K × V)) (new : List (List (K × V))) → IsPlace cmp cs q at →
        slice_get cs at ≡ Some es → remove_entry (is_at (cmp q)) es ≡ [] → new ≡ remove cs at → AreEntryChunks cmp new
    removed_are q at es new place is none same = (
      ap (λ x. list_all has_key (map keys_of x)) same ∙ full_remove cs at are.0,
      subst (IsStrictlySortedBy cmp) (same_keys new) (entries_left_in_order cmp (is_at (cmp q)) (entries_in cs)
          (entries_in new) (removed_entries q at es new place is none same) in_order),
    )
