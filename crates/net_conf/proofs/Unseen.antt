-- What who reads a list does not see of what is put in or taken out.
use Rattle.std.proofs.Common.{◌≡◌, Bool, true, false, cond, ◌||◌, List, [], ◌∷◌, filter, Some, refl, sym, ap, subst, ◌∙◌}
use Rattle.std.specs.declared.cmp.Ordering.{Ordering}
use Rattle.std.specs.declared.cmp.Ordering.TheVariants.{Less, Equal, Greater}
use Rattle.std.specs.Ordering.{match_ordering}
use Rattle.std.specs.List.{list_any}
use Rattle.std.specs.Map.{lookup, remove_entry}
use Rattle.std.specs.Set.{remove_key}
use Rattle.std.specs.BTreeMap.{is_at, insert_entry}
use Rattle.std.specs.BTreeSet.{insert_key}
use Rattle.std.proofs.lemmas.Map.Lookups.{CmpEqualImpliesEq}
use Rattle.net_conf.proofs.KeptTrees.{equal_when}

-- what is read of a list, element by element: one that is not seen changes nothing before any others
module _ {X B : Type 0} (read : List X → B) (step : (x : X) (xs ys : List X) → read xs ≡ read ys →
    read (x ∷ xs) ≡ read (x ∷ ys)) where
  abbrev Unseen : X → Type 0
  Unseen x = (xs : List X) → read (x ∷ xs) ≡ read xs

  key_put_in : (cmp : X → X → Ordering) (k : X) → Unseen k → (xs : List X) → read (insert_key cmp xs k) ≡ read xs
  key_put_in cmp k unseen [] = unseen []
  key_put_in cmp k unseen (x ∷ xs) = by (cmp k x) (key_put_in cmp k unseen xs)
    where
      by : (o : Ordering) → read (insert_key cmp xs k) ≡ read xs →
          read (match_ordering o (k ∷ x ∷ xs) (x ∷ xs) (x ∷ insert_key cmp xs k)) ≡ read (x ∷ xs)
      by Less rest = unseen (x ∷ xs)
      by Equal rest = refl
      by Greater rest = step x (insert_key cmp xs k) xs rest

  key_taken_out : (test : X → Bool) → ((x : X) → test x ≡ true → Unseen x) → (xs : List X) →
      read (remove_key test xs) ≡ read xs
  key_taken_out test unseen [] = refl
  key_taken_out test unseen (x ∷ xs) = by (test x) refl (key_taken_out test unseen xs)
    where
      by : (b : Bool) → test x ≡ b → read (remove_key test xs) ≡ read xs →
          read (cond b xs (x ∷ remove_key test xs)) ≡ read (x ∷ xs)
      by true is rest = sym (unseen x is xs)
      by false is rest = step x (remove_key test xs) xs rest

-- the same of entries
module _ {K V B : Type 0} (read : List (K × V) → B) (step : (e : K × V) (es fs : List (K × V)) → read es ≡ read fs →
    read (e ∷ es) ≡ read (e ∷ fs)) where
  abbrev UnseenAt : K → Type 0
  UnseenAt k = (v : V) (es : List (K × V)) → read ((k, v) ∷ es) ≡ read es

  pub entry_put_in : (cmp : K → K → Ordering) (k : K) (v : V) → CmpEqualImpliesEq cmp → UnseenAt k →
      (es : List (K × V)) → read (insert_entry cmp es k v) ≡ read es
  entry_put_in cmp k v exact unseen [] = unseen v []
  entry_put_in cmp k v exact unseen (e ∷ es) = by (cmp k e.0) refl (entry_put_in cmp k v exact unseen es)
    where
      by : (o : Ordering) → cmp k e.0 ≡ o → read (insert_entry cmp es k v) ≡ read es →
          read (match_ordering o ((k, v) ∷ e ∷ es) ((e.0, v) ∷ es) (e ∷ insert_entry cmp es k v)) ≡ read (e ∷ es)
      by Less is rest = unseen v (e ∷ es)
      by Equal is rest = let there : UnseenAt e.0 = subst UnseenAt (exact k e.0 is) unseen in there v es
          ∙ sym (there e.1 es)
      by Greater is rest = step e (insert_entry cmp es k v) es rest

  entry_taken_out : (cmp : K → K → Ordering) (k : K) → CmpEqualImpliesEq cmp → UnseenAt k → (es : List (K × V)) →
      read (remove_entry (is_at (cmp k)) es) ≡ read es
  entry_taken_out cmp k exact unseen [] = refl
  entry_taken_out cmp k exact unseen (e ∷ es) = by (is_at (cmp k) e.0) refl (entry_taken_out cmp k exact unseen es)
    where
      by : (b : Bool) → is_at (cmp k) e.0 ≡ b → read (remove_entry (is_at (cmp k)) es) ≡ read es →
          read (cond b es (e ∷ remove_entry (is_at (cmp k)) es)) ≡ read (e ∷ es)
      by true is rest = let there : UnseenAt e.0 = subst UnseenAt (exact k e.0 (equal_when (cmp k e.0) is)) unseen in
          sym (there e.1 es)
      by false is rest = step e (remove_entry (is_at (cmp k)) es) es rest

-- a key that fails the test is not seen by who asks whether any passes
module _ {K : Type 0} (cmp : K → K → Ordering) (exact : CmpEqualImpliesEq cmp) (test : K →
    Bool) (k : K) (fails : test k ≡ false) where
  fails_at : (x : K) → is_at (cmp k) x ≡ true → test x ≡ false
  fails_at x is = ap test (sym (exact k x (equal_when (cmp k x) is))) ∙ fails

  any_step : (x : K) (xs ys : List K) → list_any test xs ≡ list_any test ys →
      list_any test (x ∷ xs) ≡ list_any test (x ∷ ys)
  any_step x xs ys same = ap (λ b. test x || b) same

  any_unseen : (x : K) → test x ≡ false → (xs : List K) → list_any test (x ∷ xs) ≡ list_any test xs
  any_unseen x is xs = ap (λ b. b || list_any test xs) is

  pub any_with : (xs : List K) → list_any test (insert_key cmp xs k) ≡ list_any test xs
  any_with xs = key_put_in (list_any test) any_step cmp k (any_unseen k fails) xs

  pub any_without : (xs : List K) → list_any test (remove_key (is_at (cmp k)) xs) ≡ list_any test xs
  any_without xs = key_taken_out (list_any test) any_step (is_at (cmp k)) (λ x is. any_unseen x (fails_at x is)) xs

  -- nor by who picks those that pass
  filter_step : (x : K) (xs ys : List K) → filter test xs ≡ filter test ys → filter test (x ∷ xs) ≡ filter test (x ∷ ys)
  filter_step x xs ys same = ap (λ zs. cond (test x) (x ∷ zs) zs) same

  filter_unseen : (x : K) → test x ≡ false → (xs : List K) → filter test (x ∷ xs) ≡ filter test xs
  filter_unseen x is xs = ap (λ b. cond b (x ∷ filter test xs) (filter test xs)) is

  pub filter_with : (xs : List K) → filter test (insert_key cmp xs k) ≡ filter test xs
  filter_with xs = key_put_in (filter test) filter_step cmp k (filter_unseen k fails) xs

  pub filter_without : (xs : List K) → filter test (remove_key (is_at (cmp k)) xs) ≡ filter test xs
  filter_without xs = key_taken_out (filter test) filter_step (is_at (cmp k))
      (λ x is. filter_unseen x (fails_at x is)) xs

  -- nor by who looks another key up
  module _ {V : Type 0} where
    lookup_step : (e : K × V) (es fs : List (K × V)) → lookup test es ≡ lookup test fs →
        lookup test (e ∷ es) ≡ lookup test (e ∷ fs)
    lookup_step e es fs same = ap (cond (test e.0) (Some e.1)) same

    lookup_unseen : (v : V) (es : List (K × V)) → lookup test ((k, v) ∷ es) ≡ lookup test es
    lookup_unseen v es = ap (λ b. cond b (Some v) (lookup test es)) fails

    pub lookup_with : (v : V) (es : List (K × V)) → lookup test (insert_entry cmp es k v) ≡ lookup test es
    lookup_with v es = entry_put_in (lookup test) lookup_step cmp k v exact lookup_unseen es

    pub lookup_without : (es : List (K × V)) → lookup test (remove_entry (is_at (cmp k)) es) ≡ lookup test es
    lookup_without es = entry_taken_out (lookup test) lookup_step cmp k exact lookup_unseen es
