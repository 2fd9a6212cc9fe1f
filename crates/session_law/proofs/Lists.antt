-- Lists and look-ups in general, for the session law.
use Rattle.std.proofs.Common.{◌≡◌, Bool, true, false, cond, ◌||◌, List, [], ◌∷◌, ◌++◌, map, filter, find, fold, Option, Some, None, option_map, is_some, refl, sym, ap, subst, ◌∙◌}
use Rattle.std.specs.declared.cmp.Ordering.{Ordering}
use Rattle.std.specs.declared.cmp.Ordering.TheVariants.{Less, Equal, Greater}
use Rattle.std.specs.Ordering.{match_ordering}
use Rattle.std.specs.List.{AllByRecursion, list_any}
use Rattle.std.specs.Map.{remove_entry}
use Rattle.std.specs.BTreeMap.{insert_entry}
use Rattle.std.specs.BTreeSet.{insert_key}
use Rattle.std.proofs.lemmas.Bool.{true≢false}

-- FILTERS AND MAPS

-- a change of what may be there leaves whether it is
pub some_mapped : {A B : Type 0} (f : A → B) (o : Option A) → is_some (option_map f o) ≡ is_some o
some_mapped f None = refl
some_mapped f (Some x) = refl

module _ {X : Type 0} (p q : X → Bool) where
  kept_step : (b c : Bool) (x : X) (xs : List X) → p x ≡ b → q x ≡ c → (b ≡ true → c ≡ true) →
      find p (filter q xs) ≡ find p xs → find p (filter q (x ∷ xs)) ≡ find p (x ∷ xs)
  kept_step true true x xs is is' all rest = rw is' (rw is refl)
  kept_step true false x xs is is' all rest = absurd (true≢false (sym (all refl)))
  kept_step false true x xs is is' all rest = rw is' (rw is rest)
  kept_step false false x xs is is' all rest = rw is' (rw is rest)

  -- a filter that keeps what may be found
  pub find_kept : ((x : X) → p x ≡ true → q x ≡ true) → (xs : List X) → find p (filter q xs) ≡ find p xs
  find_kept all [] = refl
  find_kept all (x ∷ xs) = kept_step (p x) (q x) x xs refl refl (all x) (find_kept all xs)

  dropped_step : (b c : Bool) (x : X) (xs : List X) → p x ≡ b → q x ≡ c → (b ≡ true → c ≡ false) →
      find p (filter q xs) ≡ None → find p (filter q (x ∷ xs)) ≡ None
  dropped_step b false x xs is is' all rest = rw is' rest
  dropped_step false true x xs is is' all rest = rw is' (rw is rest)
  dropped_step true true x xs is is' all rest = absurd (true≢false (all refl))

  -- a filter that drops what may be found
  pub find_dropped : ((x : X) → p x ≡ true → q x ≡ false) → (xs : List X) → find p (filter q xs) ≡ None
  find_dropped all [] = refl
  find_dropped all (x ∷ xs) = dropped_step (p x) (q x) x xs refl refl (all x) (find_dropped all xs)

module _ {X Y : Type 0} (view : X → Y) (p : X → Bool) (f : X → X) (g : Y → Y) where
  mapped_step : (b : Bool) (x : X) (xs : List X) → p x ≡ b → p (f x) ≡ b → (b ≡ true → view (f x) ≡ g (view x)) →
      option_map view (find p (map f xs)) ≡ option_map g (option_map view (find p xs)) →
      option_map view (find p (map f (x ∷ xs))) ≡ option_map g (option_map view (find p (x ∷ xs)))
  mapped_step true x xs is is' here rest = rw is' (rw is (ap Some (here refl)))
  mapped_step false x xs is is' here rest = rw is' (rw is rest)

  -- what is found after a change of each that leaves what the test asks
  pub find_mapped : ((x : X) → p (f x) ≡ p x) → ((x : X) → p x ≡ true → view (f x) ≡ g (view x)) → (xs : List X) →
      option_map view (find p (map f xs)) ≡ option_map g (option_map view (find p xs))
  find_mapped same here [] = refl
  find_mapped same here (x ∷ xs) = mapped_step (p x) x xs refl (same x) (here x) (find_mapped same here xs)

-- ANY

module _ {X : Type 0} (p : X → Bool) where
  any_step : (b : Bool) (xs ys : List X) → ((list_any p (xs ++ ys)) ≡ false → (list_any p xs ≡ false)
      × (list_any p ys ≡ false)) → (b || list_any p (xs ++ ys)) ≡ false → ((b || list_any p xs) ≡ false)
      × (list_any p ys ≡ false)
  any_step true xs ys rest h = absurd (true≢false h)
  any_step false xs ys rest h = rest h

  -- none of a whole list is none of its parts
  pub none_of_both : (xs ys : List X) → list_any p (xs ++ ys) ≡ false → (list_any p xs ≡ false)
      × (list_any p ys ≡ false)
  none_of_both [] ys h = (refl, h)
  none_of_both (x ∷ xs) ys h = any_step (p x) xs ys (none_of_both xs ys) h

or_true : (b c : Bool) → c ≡ true → (b || c) ≡ true
or_true true c h = refl
or_true false c h = h

module _ {K : Type 0} (cmp : K → K → Ordering) (test : K → Bool) (exact : (k x : K) → cmp k x ≡ Equal → k ≡ x) where
  kept_by_order : (r : Ordering) (k x : K) (xs more : List K) → (list_any test xs ≡ true → list_any test more ≡ true) →
      (test x || list_any test xs) ≡ true → list_any test (match_ordering r (k ∷ x ∷ xs) (x ∷ xs) (x ∷ more)) ≡ true
  kept_by_order Less k x xs more still h = or_true (test k) _ h
  kept_by_order Equal k x xs more still h = h
  kept_by_order Greater k x xs more still h = in_either (test x) h where
    in_either : (b : Bool) → (b || list_any test xs) ≡ true → (b || list_any test more) ≡ true
    in_either true h = refl
    in_either false h = still h

  -- what is there stays when a key is put in
  any_kept : (k : K) (xs : List K) → list_any test xs ≡ true → list_any test (insert_key cmp xs k) ≡ true
  any_kept k [] h = absurd (true≢false (sym h))
  any_kept k (x ∷ xs) h = kept_by_order (cmp k x) k x xs (insert_key cmp xs k) (any_kept k xs) h

  new_by_order : (r : Ordering) (k x : K) (xs more : List K) → cmp k x ≡ r → test k ≡ true → list_any test more ≡ true →
      list_any test (match_ordering r (k ∷ x ∷ xs) (x ∷ xs) (x ∷ more)) ≡ true
  new_by_order Less k x xs more is h there = rw h refl
  new_by_order Equal k x xs more is h there = rw (ap test (sym (exact k x is)) ∙ h) refl
  new_by_order Greater k x xs more is h there = or_true (test x) _ there

  -- the key that is put in is there
  any_new : (k : K) (xs : List K) → test k ≡ true → list_any test (insert_key cmp xs k) ≡ true
  any_new k [] h = rw h refl
  any_new k (x ∷ xs) h = new_by_order (cmp k x) k x xs (insert_key cmp xs k) refl h (any_new k xs h)

  abbrev gathered : List K → List K → List K
  gathered xs ks = fold (λ qs k. insert_key cmp qs k) xs ks

  any_folded : (ks xs : List K) → list_any test xs ≡ true → list_any test (gathered xs ks) ≡ true
  any_folded [] xs h = h
  any_folded (k ∷ ks) xs h = any_folded ks (insert_key cmp xs k) (any_kept k xs h)

  gathered_step : (b : Bool) (k : K) (ks xs : List K) → test k ≡ b →
      (list_any test ks ≡ true → list_any test (gathered (insert_key cmp xs k) ks) ≡ true) →
      (b || list_any test ks) ≡ true → list_any test (gathered (insert_key cmp xs k) ks) ≡ true
  gathered_step true k ks xs is rest h = any_folded ks (insert_key cmp xs k) (any_new k xs is)
  gathered_step false k ks xs is rest h = rest h

  -- each key of a list is among those that are put in order
  pub any_gathered : (ks xs : List K) → list_any test ks ≡ true → list_any test (gathered xs ks) ≡ true
  any_gathered [] xs h = absurd (true≢false (sym h))
  any_gathered (k ∷ ks) xs h = gathered_step (test k) k ks xs refl (any_gathered ks (insert_key cmp xs k)) h

-- EACH

module _ {X : Type 0} (P : X → Type 0) where
  pub everywhere : ((x : X) → P x) → (xs : List X) → AllByRecursion P xs
  everywhere all [] = tt
  everywhere all (x ∷ xs) = (all x, everywhere all xs)

  pub each_joined : (xs ys : List X) → AllByRecursion P xs → AllByRecursion P ys → AllByRecursion P (xs ++ ys)
  each_joined [] ys h g = g
  each_joined (x ∷ xs) ys h g = (h.0, each_joined xs ys h.1 g)

  pub each_filtered : (p : X → Bool) (xs : List X) → AllByRecursion P xs → AllByRecursion P (filter p xs)
  each_filtered p [] h = tt
  each_filtered p (x ∷ xs) h = elim (p x) as (λ b. AllByRecursion P (cond b (x ∷ filter p xs) (filter p xs))) [
    | true ↦
        (h.0, each_filtered p xs h.1)
    | false ↦ each_filtered p xs h.1
  ]

pub each_mapped : {X Y : Type 0} (P : X → Type 0) (Q : Y → Type 0) (f : X → Y) → ((x : X) → P x → Q (f x)) →
    (xs : List X) → AllByRecursion P xs → AllByRecursion Q (map f xs)
each_mapped P Q f so [] h = tt
each_mapped P Q f so (x ∷ xs) h = (so x h.0, each_mapped P Q f so xs h.1)

pub each_so : {X : Type 0} (P Q : X → Type 0) → ((x : X) → P x → Q x) → (xs : List X) → AllByRecursion P xs →
    AllByRecursion Q xs
each_so P Q so [] h = tt
each_so P Q so (x ∷ xs) h = (so x h.0, each_so P Q so xs h.1)

module _ {K X : Type 0} (P : K × X → Type 0) where
  each_by_order : (r : Ordering) (k : K) (v : X) (e : K × X) (es more : List (K × X)) → (r ≡ Equal → k ≡ e.0) →
      P (k, v) → P e → AllByRecursion P es → AllByRecursion P more →
      AllByRecursion P (match_ordering r ((k, v) ∷ e ∷ es) ((e.0, v) ∷ es) (e ∷ more))
  each_by_order Less k v e es more same pk pe pes pm = (pk, (pe, pes))
  each_by_order Equal k v e es more same pk pe pes pm = (subst (λ x. P (x, v)) (same refl) pk, pes)
  each_by_order Greater k v e es more same pk pe pes pm = (pe, pm)

  pub each_inserted : (cmp : K → K → Ordering) → ((k x : K) → cmp k x ≡ Equal → k ≡ x) →
      (k : K) (v : X) (es : List (K × X)) → P (k, v) → AllByRecursion P es → AllByRecursion P (insert_entry cmp es k v)
  each_inserted cmp exact k v [] pk h = (pk, tt)
  each_inserted cmp exact k v (e ∷ es) pk h = each_by_order (cmp k e.0) k v e es (insert_entry cmp es k v)
      (exact k e.0) pk h.0 h.1 (each_inserted cmp exact k v es pk h.1)

  pub each_removed : (test : K → Bool) (es : List (K × X)) → AllByRecursion P es →
      AllByRecursion P (remove_entry test es)
  each_removed test [] h = h
  each_removed test (e ∷ es) h =
      elim (test e.0) as (λ b. AllByRecursion P (cond b es (e ∷ remove_entry test es))) [
        | true ↦ h.1
        | false ↦
            (h.0, each_removed test es h.1)
      ]
