-- What all originate, as one list of what each router does: a change of a router's prefixes, and what is read of them.
use Rattle.std.proofs.Common.{◌≡◌, Bool, true, false, cond, ◌||◌, ◌==◌, List, [], ◌∷◌, ◌++◌, map, filter, Some, None, refl, sym, ap, ◌∙◌, subst, append_assoc}
use Rattle.std.specs.declared.cmp.Ordering.{Ordering}
use Rattle.std.specs.declared.cmp.Ordering.TheVariants.{Less, Equal, Greater}
use Rattle.std.specs.Ordering.{is_eq, ordering_then, ordering_reverse, match_ordering}
use Rattle.std.specs.Cmp.{IsTotalOrder, tied_itself, unsigned_Decides}
use Rattle.std.specs.List.{AllByRecursion, list_any}
use Rattle.std.specs.List.Sorted.{IsStrictlySortedBy}
use Rattle.std.specs.Map.{keys_of, lookup, remove_entry}
use Rattle.std.specs.Option.{unwrap_or}
use Rattle.std.specs.Set.{remove_key}
use Rattle.std.specs.BTreeMap.{insert_entry, is_at}
use Rattle.std.specs.BTreeSet.{insert_key}
use Rattle.std.proofs.lemmas.Bool.{true≢false}
use Rattle.std.proofs.lemmas.List.{append-nil}
use Rattle.std.proofs.lemmas.List.Folds.{list_any-append}
use Rattle.net_prefix.specs.declared.addr.Addr.{Addr}
use Rattle.net_prefix.specs.Address.{addr_cmp}
use Rattle.net_prefix.specs.Prefix.{Prefix, prefix_cmp}
use Rattle.net_prefix.specs.Orders.{addr_exact, addr_total}
use Rattle.net_conf.specs.declared.tables.Origination.{Origination}
use Rattle.net_conf.specs.Configuration.{origination_cmp}
use Rattle.net_conf.specs.Originations.{originations_by, originations_in, prefixes_at}
use Rattle.net_conf.proofs.KeptTrees.{same_address}
use Rattle.net_conf.proofs.OthersStay.{origination}

-- LISTS IN PARTS

module _ {X : Type 0} where
  all_join : (P : X → Type 0) (xs ys : List X) → AllByRecursion P xs → AllByRecursion P ys → AllByRecursion P (xs ++ ys)
  all_join P [] ys h g = g
  all_join P (x ∷ xs) ys h g = (h.0, all_join P xs ys h.1 g)

  module _ (cmp : X → X → Ordering) (q : X) where
    put_past : (xs ys : List X) → AllByRecursion (λ x. cmp q x ≡ Greater) xs →
        insert_key cmp (xs ++ ys) q ≡ xs ++ insert_key cmp ys q
    put_past [] ys h = refl
    put_past (x ∷ xs) ys h =
        ap (λ o. match_ordering o (q ∷ x ∷ (xs ++ ys)) (x ∷ (xs ++ ys)) (x ∷ insert_key cmp (xs ++ ys) q)) h.0
        ∙ ap (λ l. x ∷ l) (put_past xs ys h.1)

    put_before : (xs ys : List X) → AllByRecursion (λ x. cmp q x ≡ Less) ys →
        insert_key cmp (xs ++ ys) q ≡ insert_key cmp xs q ++ ys
    put_before [] [] h = refl
    put_before [] (y ∷ ys) h = ap (λ o. match_ordering o (q ∷ y ∷ ys) (y ∷ ys) (y ∷ insert_key cmp ys q)) h.0
    put_before (x ∷ xs) ys h = by (cmp q x) (put_before xs ys h)
      where
        by : (o : Ordering) → insert_key cmp (xs ++ ys) q ≡ insert_key cmp xs q ++ ys →
            match_ordering o (q ∷ x ∷ (xs ++ ys)) (x ∷ (xs ++ ys)) (x ∷ insert_key cmp (xs ++ ys) q)
            ≡ match_ordering o (q ∷ x ∷ xs) (x ∷ xs) (x ∷ insert_key cmp xs q) ++ ys
        by Less rest = refl
        by Equal rest = refl
        by Greater rest = ap (λ l. x ∷ l) rest

  module _ (test : X → Bool) where
    left_past : (xs ys : List X) → AllByRecursion (λ x. test x ≡ false) xs →
        remove_key test (xs ++ ys) ≡ xs ++ remove_key test ys
    left_past [] ys h = refl
    left_past (x ∷ xs) ys h = ap (λ b. cond b (xs ++ ys) (x ∷ remove_key test (xs ++ ys))) h.0
        ∙ ap (λ l. x ∷ l) (left_past xs ys h.1)

    left_none : (ys : List X) → AllByRecursion (λ y. test y ≡ false) ys → remove_key test ys ≡ ys
    left_none [] h = refl
    left_none (y ∷ ys) h = ap (λ b. cond b ys (y ∷ remove_key test ys)) h.0 ∙ ap (λ l. y ∷ l) (left_none ys h.1)

    left_before : (xs ys : List X) → AllByRecursion (λ y. test y ≡ false) ys →
        remove_key test (xs ++ ys) ≡ remove_key test xs ++ ys
    left_before [] ys h = left_none ys h
    left_before (x ∷ xs) ys h = by (test x) (left_before xs ys h)
      where
        by : (b : Bool) → remove_key test (xs ++ ys) ≡ remove_key test xs ++ ys →
            cond b (xs ++ ys) (x ∷ remove_key test (xs ++ ys)) ≡ cond b xs (x ∷ remove_key test xs) ++ ys
        by true rest = refl
        by false rest = ap (λ l. x ∷ l) rest

    none_of : (xs : List X) → AllByRecursion (λ x. test x ≡ false) xs → list_any test xs ≡ false
    none_of [] h = refl
    none_of (x ∷ xs) h = λ i. h.0 i || none_of xs h.1 i

  -- what compares so to a key is not that key
  no_match : (see : X → Ordering) (o : Ordering) → is_eq o ≡ false → (xs : List X) →
      AllByRecursion (λ x. see x ≡ o) xs → AllByRecursion (λ x. is_eq (see x) ≡ false) xs
  no_match see o other [] h = tt
  no_match see o other (x ∷ xs) h = (ap is_eq h.0 ∙ other, no_match see o other xs h.1)

-- ONE ROUTER'S

module _ (r : Addr) where
  -- the address of another is another
  apart : (a : Addr) (o : Ordering) → is_eq o ≡ false → addr_cmp r a ≡ o → (a.0 == r.0) ≡ false
  apart a o other is = by (a.0 == r.0) refl
    where
      by : (b : Bool) → (a.0 == r.0) ≡ b → b ≡ false
      by true at = absurd (true≢false (sym (ap is_eq (ap (addr_cmp r) (same_address a r at) ∙ tied_itself addr_total r))
          ∙ ap is_eq is ∙ other))
      by false at = refl

  itself : (r.0 == r.0) ≡ true
  itself = (unsigned_Decides r.0 r.0).1 refl

  module _ (p : Prefix) where
    -- the router's own compare by their prefixes
    own_seen : (q : Prefix) → origination_cmp (origination r p) (origination r q) ≡ prefix_cmp p q
    own_seen q = ap (λ o. ordering_then o (prefix_cmp p q)) (tied_itself addr_total r)

    -- those of another by the router
    other_seen : (a : Addr) (o : Ordering) → is_eq o ≡ false → addr_cmp r a ≡ o → (q : Prefix) →
        origination_cmp (origination r p) (origination a q) ≡ o
    other_seen a Less other is q = ap (λ o. ordering_then o (prefix_cmp p q)) is
    other_seen a Equal other is q = absurd (true≢false other)
    other_seen a Greater other is q = ap (λ o. ordering_then o (prefix_cmp p q)) is

    all_seen : (a : Addr) (o : Ordering) → is_eq o ≡ false → addr_cmp r a ≡ o → (qs : List Prefix) →
        AllByRecursion (λ x. origination_cmp (origination r p) x ≡ o) (originations_by a qs)
    all_seen a o other is [] = tt
    all_seen a o other is (q ∷ qs) = (other_seen a o other is q, all_seen a o other is qs)

    -- those of routers above are above
    all_above : (es : List (Addr × List Prefix)) → AllByRecursion (λ a. addr_cmp r a ≡ Less) (keys_of es) →
        AllByRecursion (λ x. origination_cmp (origination r p) x ≡ Less) (originations_in es)
    all_above [] h = tt
    all_above (e ∷ es) h = all_join (λ x. origination_cmp (origination r p) x ≡ Less) (originations_by e.0 e.1)
        (originations_in es) (all_seen e.0 Less refl h.0 e.1) (all_above es h.1)

    put_own : (ps : List Prefix) → originations_by r (insert_key prefix_cmp ps p)
        ≡ insert_key origination_cmp (originations_by r ps) (origination r p)
    put_own [] = refl
    put_own (q ∷ ps) =
        by (prefix_cmp p q) (put_own ps)
        ∙ ap (λ o. match_ordering o (origination r p ∷ origination r q ∷ originations_by r ps)
        (origination r q ∷ originations_by r ps)
        (origination r q ∷ insert_key origination_cmp (originations_by r ps) (origination r p))) (sym (own_seen q))
      where
        by : (o : Ordering) → originations_by r (insert_key prefix_cmp ps p)
            ≡ insert_key origination_cmp (originations_by r ps) (origination r p) →
            originations_by r (match_ordering o (p ∷ q ∷ ps) (q ∷ ps) (q ∷ insert_key prefix_cmp ps p))
            ≡ match_ordering o (origination r p ∷ origination r q ∷ originations_by r ps)
            (origination r q ∷ originations_by r ps)
            (origination r q ∷ insert_key origination_cmp (originations_by r ps) (origination r p))
        by Less rest = refl
        by Equal rest = refl
        by Greater rest = ap (λ os. origination r q ∷ os) rest

    left_own : (ps : List Prefix) → originations_by r (remove_key (is_at (prefix_cmp p)) ps)
        ≡ remove_key (is_at (origination_cmp (origination r p))) (originations_by r ps)
    left_own [] = refl
    left_own (q ∷ ps) =
        by (is_at (prefix_cmp p) q) (left_own ps)
        ∙ ap (λ o. cond (is_eq o) (originations_by r ps)
        (origination r q ∷ remove_key (is_at (origination_cmp (origination r p))) (originations_by r ps)))
        (sym (own_seen q))
      where
        by : (b : Bool) → originations_by r (remove_key (is_at (prefix_cmp p)) ps)
            ≡ remove_key (is_at (origination_cmp (origination r p))) (originations_by r ps) →
            originations_by r (cond b ps (q ∷ remove_key (is_at (prefix_cmp p)) ps)) ≡ cond b (originations_by r ps)
            (origination r q ∷ remove_key (is_at (origination_cmp (origination r p))) (originations_by r ps))
        by true rest = refl
        by false rest = ap (λ os. origination r q ∷ os) rest

    found_own : (ps : List Prefix) → list_any (is_at (origination_cmp (origination r p))) (originations_by r ps)
        ≡ list_any (is_at (prefix_cmp p)) ps
    found_own [] = refl
    found_own (q ∷ ps) = λ i. is_eq (own_seen q i) || found_own ps i

  -- the prefixes of the router among these
  abbrev originated : List Origination → List Prefix
  originated os = map (λ o. o.prefix) (filter (λ o. o.router.0 == r.0) os)

  skipped : (os rest : List Origination) → AllByRecursion (λ o. (o.router.0 == r.0) ≡ false) os →
      originated (os ++ rest) ≡ originated rest
  skipped [] rest h = refl
  skipped (o ∷ os) rest h =
      ap (λ b. map (λ (x : Origination). x.prefix) (cond b (o ∷ filter (λ x. x.router.0 == r.0) (os ++ rest))
      (filter (λ x. x.router.0 == r.0) (os ++ rest)))) h.0 ∙ skipped os rest h.1

  own_listed : (ps : List Prefix) (rest : List Origination) →
      originated (originations_by r ps ++ rest) ≡ ps ++ originated rest
  own_listed [] rest = refl
  own_listed (p ∷ ps) rest =
      ap (λ b. map (λ (x : Origination). x.prefix)
      (cond b (origination r p ∷ filter (λ x. x.router.0 == r.0) (originations_by r ps ++ rest))
      (filter (λ x. x.router.0 == r.0) (originations_by r ps ++ rest)))) itself
      ∙ ap (λ qs. p ∷ qs) (own_listed ps rest)

  others_of : (a : Addr) (o : Ordering) → is_eq o ≡ false → addr_cmp r a ≡ o → (ps : List Prefix) →
      AllByRecursion (λ x. (x.router.0 == r.0) ≡ false) (originations_by a ps)
  others_of a o other is [] = tt
  others_of a o other is (p ∷ ps) = (apart a o other is, others_of a o other is ps)

  others_above : (es : List (Addr × List Prefix)) → AllByRecursion (λ a. addr_cmp r a ≡ Less) (keys_of es) →
      AllByRecursion (λ x. (x.router.0 == r.0) ≡ false) (originations_in es)
  others_above [] h = tt
  others_above (e ∷ es) h = all_join (λ x. (x.router.0 == r.0) ≡ false) (originations_by e.0 e.1) (originations_in es)
      (others_of e.0 Less refl h.0 e.1) (others_above es h.1)

  -- WHERE THE ROUTER'S STAND

  -- all, with these prefixes of the router between those of routers below and above; with others; and with none
  record IsParted (all : List Origination) (own : List Prefix) (put : List Prefix → List Origination)
      (without : List Origination) : Type 0 where
    front : List Origination
    back : List Origination
    whole : all ≡ front ++ (originations_by r own ++ back)
    with_others : (ps : List Prefix) → put ps ≡ front ++ (originations_by r ps ++ back)
    with_none : without ≡ front ++ back
    below : (p : Prefix) → AllByRecursion (λ x. origination_cmp (origination r p) x ≡ Greater) front
    above : (p : Prefix) → AllByRecursion (λ x. origination_cmp (origination r p) x ≡ Less) back
    others_front : AllByRecursion (λ x. (x.router.0 == r.0) ≡ false) front
    others_back : AllByRecursion (λ x. (x.router.0 == r.0) ≡ false) back

  all_past : (a : Addr) (ks : List Addr) → addr_cmp r a ≡ Less → AllByRecursion (λ y. addr_cmp a y ≡ Less) ks →
      AllByRecursion (λ y. addr_cmp r y ≡ Less) ks
  all_past a [] less h = tt
  all_past a (k ∷ ks) less h = (addr_total.trans r a k less h.0, all_past a ks less h.1)

  none_found : (es : List (Addr × List Prefix)) → AllByRecursion (λ a. addr_cmp r a ≡ Less) (keys_of es) →
      lookup (is_at (addr_cmp r)) es ≡ None
  none_found [] h = refl
  none_found (e ∷ es) h = ap (λ o. cond (is_eq o) (Some e.1) (lookup (is_at (addr_cmp r)) es)) h.0 ∙ none_found es h.1

  none_left : (es : List (Addr × List Prefix)) → AllByRecursion (λ a. addr_cmp r a ≡ Less) (keys_of es) →
      remove_entry (is_at (addr_cmp r)) es ≡ es
  none_left [] h = refl
  none_left (e ∷ es) h = ap (λ o. cond (is_eq o) es (e ∷ remove_entry (is_at (addr_cmp r)) es)) h.0
      ∙ ap (λ l. e ∷ l) (none_left es h.1)

  parted : (es : List (Addr × List Prefix)) → IsStrictlySortedBy addr_cmp (keys_of es) →
      IsParted (originations_in es) (prefixes_at es r) (λ ps. originations_in (insert_entry addr_cmp es r ps))
      (originations_in (remove_entry (is_at (addr_cmp r)) es))
  unfolding IsStrictlySortedBy
  parted [] sorted = record {
    front = [];
    back = [];
    whole = refl;
    with_others = λ ps. refl;
    with_none = refl;
    below = λ p. tt;
    above = λ p. tt;
    others_front = tt;
    others_back = tt;
  }
  parted (e ∷ es) sorted = by (addr_cmp r e.0) refl (parted es sorted.1)
    where
      by : (o : Ordering) → addr_cmp r e.0 ≡ o →
          IsParted (originations_in es) (prefixes_at es r) (λ ps. originations_in (insert_entry addr_cmp es r ps))
          (originations_in (remove_entry (is_at (addr_cmp r)) es))
          → IsParted (originations_in (e ∷ es))
          (unwrap_or (cond (is_eq o) (Some e.1) (lookup (is_at (addr_cmp r)) es)) [])
          (λ ps. originations_in (match_ordering o ((r, ps) ∷ e ∷ es) ((e.0, ps) ∷ es)
          (e ∷ insert_entry addr_cmp es r ps)))
          (originations_in (cond (is_eq o) es (e ∷ remove_entry (is_at (addr_cmp r)) es)))
      by Less is rest =
          let past : AllByRecursion (λ a. addr_cmp r a ≡ Less) (keys_of es) = all_past e.0 (keys_of es) is sorted.0 in
          let all : AllByRecursion (λ a. addr_cmp r a ≡ Less) (keys_of (e ∷ es)) = (is, past) in
          record {
            front = [];
            back = originations_in (e ∷ es);
            whole = ap (λ ps. originations_by r (unwrap_or ps []) ++ originations_in (e ∷ es))
                (sym (none_found es past));
            with_others = λ ps. refl;
            with_none = ap (λ l. originations_in (e ∷ l)) (none_left es past);
            below = λ p. tt;
            above = λ p. all_above p (e ∷ es) all;
            others_front = tt;
            others_back = others_above (e ∷ es) all;
          }
      by Equal is rest =
          let same : r ≡ e.0 = addr_exact r e.0 is in
          let past : AllByRecursion (λ a. addr_cmp r a ≡ Less) (keys_of es) =
          subst (λ a. AllByRecursion (λ y. addr_cmp a y ≡ Less) (keys_of es)) (sym same) sorted.0 in
          record {
            front = [];
            back = originations_in es;
            whole = ap (λ a. originations_by a e.1 ++ originations_in es) (sym same);
            with_others = λ ps. ap (λ a. originations_by a ps ++ originations_in es) (sym same);
            with_none = refl;
            below = λ p. tt;
            above = λ p. all_above p es past;
            others_front = tt;
            others_back = others_above es past;
          }
      by Greater is rest = record {
        front = originations_by e.0 e.1 ++ rest.front;
        back = rest.back;
        whole = ap (λ os. originations_by e.0 e.1 ++ os) rest.whole
            ∙ sym (append_assoc (originations_by e.0 e.1) rest.front
            (originations_by r (prefixes_at es r) ++ rest.back));
        with_others = λ ps. ap (λ os. originations_by e.0 e.1 ++ os) (rest.with_others ps)
            ∙ sym (append_assoc (originations_by e.0 e.1) rest.front (originations_by r ps ++ rest.back));
        with_none = ap (λ os. originations_by e.0 e.1 ++ os) rest.with_none
            ∙ sym (append_assoc (originations_by e.0 e.1) rest.front rest.back);
        below = λ p. all_join (λ x. origination_cmp (origination r p) x ≡ Greater) (originations_by e.0 e.1) rest.front
            (all_seen p e.0 Greater refl is e.1) (rest.below p);
        above = rest.above;
        others_front = all_join (λ x. (x.router.0 == r.0) ≡ false) (originations_by e.0 e.1) rest.front
            (others_of e.0 Greater refl is e.1) rest.others_front;
        others_back = rest.others_back;
      }

  module _ (es : List (Addr × List Prefix)) (sorted : IsStrictlySortedBy addr_cmp (keys_of es)) where
    -- a router with no prefixes may be left out
    pub with_none : originations_in (remove_entry (is_at (addr_cmp r)) es)
        ≡ originations_in (insert_entry addr_cmp es r [])
    with_none = (parted es sorted).with_none ∙ sym ((parted es sorted).with_others [])

    -- the router's prefixes are those of its set
    pub prefixes_of : prefixes_at es r ≡ map (λ o. o.prefix) (filter (λ o. o.router.0 == r.0) (originations_in es))
    prefixes_of =
        let at = parted es sorted in
        sym (ap originated at.whole
        ∙ skipped at.front (originations_by r (prefixes_at es r) ++ at.back) at.others_front
        ∙ own_listed (prefixes_at es r) at.back
        ∙ ap (λ ps. prefixes_at es r ++ ps) (ap originated (sym (append-nil at.back))
        ∙ skipped at.back [] at.others_back)
        ∙ append-nil (prefixes_at es r))

    module _ (p : Prefix) where
      abbrev here : Origination → Bool
      here = is_at (origination_cmp (origination r p))

      pub put_prefix : originations_in (insert_entry addr_cmp es r (insert_key prefix_cmp (prefixes_at es r) p))
          ≡ insert_key origination_cmp (originations_in es) (origination r p)
      put_prefix =
          let at = parted es sorted in
          at.with_others (insert_key prefix_cmp (prefixes_at es r) p)
          ∙ ap (λ os. at.front ++ (os ++ at.back)) (put_own p (prefixes_at es r))
          ∙ sym (ap (λ os. insert_key origination_cmp os (origination r p)) at.whole
          ∙ put_past origination_cmp (origination r p) at.front (originations_by r (prefixes_at es r) ++ at.back)
          (at.below p)
          ∙ ap (λ os. at.front ++ os)
          (put_before origination_cmp (origination r p) (originations_by r (prefixes_at es r)) at.back
          (at.above p)))

      left_between : remove_key (is_at (origination_cmp (origination r p))) (originations_in es)
          ≡ (parted es sorted).front ++ (originations_by r (remove_key (is_at (prefix_cmp p)) (prefixes_at es r))
          ++ (parted es sorted).back)
      left_between =
          let at = parted es sorted in
          ap (remove_key here) at.whole
          ∙ left_past here at.front (originations_by r (prefixes_at es r) ++ at.back)
          (no_match (origination_cmp (origination r p)) Greater refl at.front (at.below p))
          ∙ ap (λ os. at.front ++ os) (left_before here (originations_by r (prefixes_at es r)) at.back
          (no_match (origination_cmp (origination r p)) Less refl at.back (at.above p)))
          ∙ ap (λ os. at.front ++ (os ++ at.back)) (sym (left_own p (prefixes_at es r)))

      pub left_prefix : originations_in
          (insert_entry addr_cmp es r (remove_key (is_at (prefix_cmp p)) (prefixes_at es r)))
          ≡ remove_key (is_at (origination_cmp (origination r p))) (originations_in es)
      left_prefix = (parted es sorted).with_others (remove_key (is_at (prefix_cmp p)) (prefixes_at es r))
          ∙ sym left_between

      pub found_prefix : list_any (is_at (prefix_cmp p)) (prefixes_at es r)
          ≡ list_any (is_at (origination_cmp (origination r p))) (originations_in es)
      found_prefix =
          let at = parted es sorted in
          sym (ap (list_any here) at.whole
          ∙ list_any-append here at.front (originations_by r (prefixes_at es r) ++ at.back)
          ∙ ap (λ t. t || list_any here (originations_by r (prefixes_at es r) ++ at.back))
          (none_of here at.front (no_match (origination_cmp (origination r p)) Greater refl at.front (at.below p)))
          ∙ list_any-append here (originations_by r (prefixes_at es r)) at.back
          ∙ (λ i. found_own p (prefixes_at es r) i
          || none_of here at.back (no_match (origination_cmp (origination r p)) Less refl at.back (at.above p)) i)
          ∙ or_false (list_any (is_at (prefix_cmp p)) (prefixes_at es r)))
        where
          or_false : (t : Bool) → (t || false) ≡ t
          or_false true = refl
          or_false false = refl

-- THE ORDER STAYS

module _ {K : Type 0} (cmp : K → K → Ordering) (total : IsTotalOrder cmp) where
  all_put : (P : K → Type 0) (q : K) (ks : List K) → P q → AllByRecursion P ks → AllByRecursion P (insert_key cmp ks q)
  all_put P q [] p h = (p, tt)
  all_put P q (k ∷ ks) p h = by (cmp q k) (all_put P q ks p h.1)
    where
      by : (o : Ordering) → AllByRecursion P (insert_key cmp ks q) →
          AllByRecursion P (match_ordering o (q ∷ k ∷ ks) (k ∷ ks) (k ∷ insert_key cmp ks q))
      by Less rest = (p, h)
      by Equal rest = h
      by Greater rest = (h.0, rest)

  all_beyond : (q k : K) (ks : List K) → cmp q k ≡ Less → AllByRecursion (λ y. cmp k y ≡ Less) ks →
      AllByRecursion (λ y. cmp q y ≡ Less) ks
  all_beyond q k [] less h = tt
  all_beyond q k (x ∷ xs) less h = (total.trans q k x less h.0, all_beyond q k xs less h.1)

  pub put_in_order : (q : K) (ks : List K) → IsStrictlySortedBy cmp ks → IsStrictlySortedBy cmp (insert_key cmp ks q)
  unfolding IsStrictlySortedBy
  put_in_order q [] h = (tt, tt)
  put_in_order q (k ∷ ks) h = by (cmp q k) refl (put_in_order q ks h.1)
    where
      by : (o : Ordering) → cmp q k ≡ o → IsStrictlySortedBy cmp (insert_key cmp ks q) →
          IsStrictlySortedBy cmp (match_ordering o (q ∷ k ∷ ks) (k ∷ ks) (k ∷ insert_key cmp ks q))
      by Less is rest = ((is, all_beyond q k ks is h.0), h)
      by Equal is rest = h
      by Greater is rest = (all_put (λ y. cmp k y ≡ Less) q ks (total.antisymm k q ∙ ap ordering_reverse is) h.0, rest)

  all_left : (P : K → Type 0) (test : K → Bool) (ks : List K) → AllByRecursion P ks →
      AllByRecursion P (remove_key test ks)
  all_left P test [] h = tt
  all_left P test (k ∷ ks) h = by (test k) (all_left P test ks h.1)
    where
      by : (b : Bool) → AllByRecursion P (remove_key test ks) → AllByRecursion P (cond b ks (k ∷ remove_key test ks))
      by true rest = h.1
      by false rest = (h.0, rest)

  pub left_in_order : (test : K → Bool) (ks : List K) → IsStrictlySortedBy cmp ks →
      IsStrictlySortedBy cmp (remove_key test ks)
  unfolding IsStrictlySortedBy
  left_in_order test [] h = tt
  left_in_order test (k ∷ ks) h = by (test k) (left_in_order test ks h.1)
    where
      by : (b : Bool) → IsStrictlySortedBy cmp (remove_key test ks) →
          IsStrictlySortedBy cmp (cond b ks (k ∷ remove_key test ks))
      by true rest = h.1
      by false rest = (all_left (λ y. cmp k y ≡ Less) test ks h.0, rest)
