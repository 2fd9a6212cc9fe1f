-- The table of values, as it follows from the table of their places.
use Rattle.std.proofs.Common.{◌≡◌, ℕ, zero, suc, ◌<◌, Bool, true, false, cond, ◌&&◌, T, List, [], ◌∷◌, ◌++◌, length, set, Option, Some, None, is_some, refl, sym, ap, ◌∙◌, inl, inr, ◌⊎◌, arith}
use Rattle.std.specs.Prelude.{slice_get}
use Rattle.std.proofs.lemmas.Bool.{false≢true}
use Rattle.std.proofs.lemmas.List.{length-set, length_push}
use Rattle.std.proofs.lemmas.Option.{same_Some}
use Rattle.std.proofs.lemmas.List.Elements.{filter_map-append}
use Rattle.std.specs.Option.{option_map, option_and_then}
use Rattle.std.specs.List as list
use Rattle.std.specs.List.{cons_option}
use Rattle.std.specs.Ordering.{is_lt, eq_by_cmp}
use Rattle.std.specs.FinMap as fin
use Rattle.std.specs.FinMap.Entries.{find, is_sorted, below_all}
use Rattle.net_prefix.specs.declared.addr.Addr.{Addr}
use Rattle.net_prefix.specs.Prefix.{Prefix, prefix_cmp}
use Rattle.net_prefix.specs.Orders.{prefix_total, prefix_exact}
use Rattle.prefix_table.specs.Tables.{Table, IsLongestMatch, HasNoMatch, is_after, first_after, adjusted, adjusted_by}
use Rattle.prefix_table.specs.Trie.{entry_or_not}
use Rattle.prefix_table.specs.Values.{value_in, with_value, with_values, values_of, ArePlaced}
use Rattle.prefix_table.proofs.Entries.{first, second, find_below}
use Rattle.prefix_table.proofs.Contents.{equal_keys, same_key}

both : (a b : Bool) → T a → T b → T (a && b)
both true b p q = q
both false b p q = p

module _ {V : Type 0} where
  -- values in a list that is written to, or that grows
  get_set : (vs : List V) (i : ℕ) (v : V) → i < length vs → slice_get (set vs i v) i ≡ Some v
  get_set [] i v lt = absurd (omega arith)
  get_set (x ∷ xs) zero v lt = refl
  get_set (x ∷ xs) (suc i) v lt = get_set xs i v (omega arith)

  get_set_other : (vs : List V) (i j : ℕ) (v : V) → (j ≡ i → ⊥) → slice_get (set vs i v) j ≡ slice_get vs j
  get_set_other [] i j v other = refl
  get_set_other (x ∷ xs) zero zero v other = absurd (other refl)
  get_set_other (x ∷ xs) zero (suc j) v other = refl
  get_set_other (x ∷ xs) (suc i) zero v other = refl
  get_set_other (x ∷ xs) (suc i) (suc j) v other = get_set_other xs i j v (λ e. other (ap suc e))

  get_push : (vs : List V) (v : V) → slice_get (vs ++ v ∷ []) (length vs) ≡ Some v
  get_push [] v = refl
  get_push (x ∷ xs) v = get_push xs v

  get_push_other : (vs : List V) (v : V) (j : ℕ) → j < length vs → slice_get (vs ++ v ∷ []) j ≡ slice_get vs j
  get_push_other [] v j lt = absurd (omega arith)
  get_push_other (x ∷ xs) v zero lt = refl
  get_push_other (x ∷ xs) v (suc j) lt = get_push_other xs v j (omega arith)

  get_there : (vs : List V) (j : ℕ) → j < length vs → is_some (slice_get vs j) ≡ true
  get_there [] j lt = absurd (omega arith)
  get_there (x ∷ xs) zero lt = refl
  get_there (x ∷ xs) (suc j) lt = get_there xs j (omega arith)

  -- entries with their values are in the same order
  below_values : (vs : List V) (p : Prefix) (es : List (Prefix × ℕ)) → T (below_all prefix_cmp p es) →
      T (below_all prefix_cmp p (with_values vs es))
  below_values vs p [] h = tt
  below_values vs p (e ∷ es) h =
      let rest = below_values vs p es (second (is_lt (prefix_cmp p e.0)) (below_all prefix_cmp p es) h) in
      elim (slice_get vs e.1) as (λ o.
      T (below_all prefix_cmp p (cons_option (option_map (λ v. (e.0, v)) o) (with_values vs es)))) [
        | None ↦ rest
        | Some v ↦ both _ _ (first (is_lt (prefix_cmp p e.0)) (below_all prefix_cmp p es) h) rest
      ]

  sorted_values : (vs : List V) (es : List (Prefix × ℕ)) → T (is_sorted prefix_cmp es) →
      T (is_sorted prefix_cmp (with_values vs es))
  sorted_values vs [] h = tt
  sorted_values vs (e ∷ es) h =
      let rest = sorted_values vs es (second (below_all prefix_cmp e.0 es) (is_sorted prefix_cmp es) h) in
      elim (slice_get vs e.1) as (λ o.
      T (is_sorted prefix_cmp (cons_option (option_map (λ v. (e.0, v)) o) (with_values vs es)))) [
        | None ↦ rest
        | Some v ↦ both _ _ (below_values vs e.0 es (first (below_all prefix_cmp e.0 es) (is_sorted prefix_cmp es) h))
            rest
      ]

  find_value : (vs : List V) (q : Prefix) (es : List (Prefix × ℕ)) → T (is_sorted prefix_cmp es) →
      find prefix_cmp q (with_values vs es) ≡ value_in vs (find prefix_cmp q es)
  find_value vs q [] h = refl
  find_value vs q (e ∷ es) h =
      let rest = find_value vs q es (second (below_all prefix_cmp e.0 es) (is_sorted prefix_cmp es) h) in
      elim (slice_get vs e.1) as (λ o. slice_get vs e.1 ≡ o →
      find prefix_cmp q (cons_option (option_map (λ v. (e.0, v)) o) (with_values vs es))
      ≡ value_in vs (find prefix_cmp q (e ∷ es))) [
        | None ↦ λ is. rest ∙ elim (eq_by_cmp prefix_cmp q e.0) as (λ b. eq_by_cmp prefix_cmp q e.0 ≡ b →
            value_in vs (find prefix_cmp q es) ≡ value_in vs (cond b (Some e.1) (find prefix_cmp q es))) [
              | true ↦ λ same.
                  let none : find prefix_cmp q es ≡ None = ap (λ k. find prefix_cmp k es) (equal_keys q e.0 same)
                  ∙ find_below e.0 es (first (below_all prefix_cmp e.0 es) (is_sorted prefix_cmp es) h) in
                  ap (value_in vs) none ∙ sym is
              | false ↦ λ _. refl
            ] refl
        | Some v ↦ λ is. elim (eq_by_cmp prefix_cmp q e.0) as (λ b.
            cond b (Some v) (find prefix_cmp q (with_values vs es))
            ≡ value_in vs (cond b (Some e.1) (find prefix_cmp q es))) [
              | true ↦ sym is
              | false ↦ rest
            ]
      ] refl

  pub get_value : (vs : List V) (t : Table ℕ) (q : Prefix) → fin.get (values_of vs t) q ≡ value_in vs (fin.get t q)
  get_value vs t q =
      fin.get-from_sorted prefix_cmp (with_values vs (fin.entries t)) q
      (sorted_values vs (fin.entries t) (fin.entries_sorted t))
      ∙ find_value vs q (fin.entries t) (fin.entries_sorted t)
      ∙ ap (value_in vs) (sym (fin.get-entries t q))

  pub entries_of_values : (vs : List V) (t : Table ℕ) → fin.entries (values_of vs t) ≡ with_values vs (fin.entries t)
  entries_of_values vs t = fin.entries-from_sorted prefix_cmp (with_values vs (fin.entries t))
      (sorted_values vs (fin.entries t) (fin.entries_sorted t))

  pub no_values : ◌≡◌ {A = Table V} (values_of [] fin.empty) fin.empty
  no_values = fin.same_map prefix_total prefix_exact _ _ (λ q. get_value [] fin.empty q
      ∙ ap (value_in []) (fin.get-empty prefix_cmp q) ∙ sym (fin.get-empty prefix_cmp q))

  pub nothing_placed : ArePlaced {V = V} [] fin.empty
  nothing_placed = record {
    in_range = λ p place is. absurd (false≢true (ap is_some (sym (fin.get-empty prefix_cmp p) ∙ is)));
    apart = λ p q place is also. absurd (false≢true (ap is_some (sym (fin.get-empty prefix_cmp p) ∙ is)));
  }

  module _ (vs : List V) (t : Table ℕ) (a : ArePlaced vs t) where
    -- a key of the places is a key of the values
    same_keys : (q : Prefix) → is_some (fin.get (values_of vs t) q) ≡ is_some (fin.get t q)
    same_keys q =
        ap is_some (get_value vs t q)
        ∙ elim (fin.get t q) as (λ o. fin.get t q ≡ o → is_some (value_in vs o) ≡ is_some o) [
          | None ↦ λ _. refl
          | Some place ↦ λ is. get_there vs place (a.in_range q place is)
        ] refl

    pub none_of_places : (q : Prefix) → fin.get t q ≡ None → fin.get (values_of vs t) q ≡ None
    none_of_places q none = get_value vs t q ∙ ap (value_in vs) none

    pub key_of_places : (q : Prefix) (place : ℕ) → fin.get t q ≡ Some place →
        is_some (fin.get (values_of vs t) q) ≡ true
    key_of_places q place is = same_keys q ∙ ap is_some is

    pub value_of_place : (q : Prefix) (place : ℕ) (v : V) → fin.get t q ≡ Some place → slice_get vs place ≡ Some v →
        fin.get (values_of vs t) q ≡ Some v
    value_of_place q place v is there = get_value vs t q ∙ ap (value_in vs) is ∙ there

    -- a value that is written to its place
    pub written_map : (q : Prefix) (place : ℕ) (v : V) → fin.get t q ≡ Some place →
        values_of (set vs place v) t ≡ fin.insert (values_of vs t) q v
    written_map q place v is =
        fin.same_map prefix_total prefix_exact _ _ (λ p.
        get_value (set vs place v) t p
        ∙ elim (eq_by_cmp prefix_cmp p q) as (λ b. eq_by_cmp prefix_cmp p q ≡ b →
        value_in (set vs place v) (fin.get t p) ≡ cond b (Some v) (value_in vs (fin.get t p))) [
          | true ↦ λ same. ap (λ k. value_in (set vs place v) (fin.get t k)) (equal_keys p q same)
              ∙ ap (value_in (set vs place v)) is ∙ get_set vs place v (a.in_range q place is)
          | false ↦ λ other. elim (fin.get t p) as (λ o. fin.get t p ≡ o →
              value_in (set vs place v) o ≡ value_in vs o) [
                | None ↦ λ _. refl
                | Some j ↦ λ also. get_set_other vs place j v
                    (λ e. false≢true (sym other ∙ same_key p q (a.apart p q place (also ∙ ap Some e) is)))
              ] refl
        ] refl
        ∙ sym (fin.get-insert prefix_total (values_of vs t) q v p
        ∙ ap (cond (eq_by_cmp prefix_cmp p q) (Some v)) (get_value vs t p)))

    pub written_placed : (place : ℕ) (v : V) → ArePlaced (set vs place v) t
    written_placed place v = record {
      in_range = λ p j is. omega (arith, a.in_range p j is, length-set vs place v);
      apart = a.apart;
    }

    -- a value that is added at the end
    pub added_map : (q : Prefix) (v : V) → values_of (vs ++ v ∷ []) (fin.insert t q (length vs))
        ≡ fin.insert (values_of vs t) q v
    added_map q v =
        fin.same_map prefix_total prefix_exact _ _ (λ p.
        get_value (vs ++ v ∷ []) (fin.insert t q (length vs)) p
        ∙ ap (value_in (vs ++ v ∷ [])) (fin.get-insert prefix_total t q (length vs) p)
        ∙ elim (eq_by_cmp prefix_cmp p q) as (λ b. value_in (vs ++ v ∷ []) (cond b (Some (length vs)) (fin.get t p))
        ≡ cond b (Some v) (value_in vs (fin.get t p))) [
          | true ↦ get_push vs v
          | false ↦ elim (fin.get t p) as (λ o. fin.get t p ≡ o → value_in (vs ++ v ∷ []) o ≡ value_in vs o) [
            | None ↦ λ _. refl
            | Some j ↦ λ is. get_push_other vs v j (a.in_range p j is)
          ] refl
        ]
        ∙ sym (fin.get-insert prefix_total (values_of vs t) q v p
        ∙ ap (cond (eq_by_cmp prefix_cmp p q) (Some v)) (get_value vs t p)))

    -- the key of a place after a value was added: the new one's, or one of before
    place_added : (q p : Prefix) (j : ℕ) → fin.get (fin.insert t q (length vs)) p ≡ Some j → ((p ≡ q) × (j ≡ length vs))
        ⊎ (fin.get t p ≡ Some j)
    place_added q p j is =
        elim (eq_by_cmp prefix_cmp p q) as (λ b. eq_by_cmp prefix_cmp p q ≡ b →
        cond b (Some (length vs)) (fin.get t p) ≡ Some j → ((p ≡ q) × (j ≡ length vs)) ⊎ (fin.get t p ≡ Some j)) [
          | true ↦ λ same e. inl (equal_keys p q same, sym (same_Some _ _ e))
          | false ↦ λ _ e. inr e
        ] refl (sym (fin.get-insert prefix_total t q (length vs) p) ∙ is)

    pub added_placed : (q : Prefix) (v : V) → ArePlaced (vs ++ v ∷ []) (fin.insert t q (length vs))
    added_placed q v =
        let size = length_push vs v in
        record {
          in_range = λ p j is. elim (place_added q p j is) as (λ _. j < length (vs ++ v ∷ [])) [
            | inl new ↦ omega (arith, size, new.1)
            | inr old ↦ omega (arith, size, a.in_range p j old)
          ];
          apart = λ p r j is also. elim (place_added q p j is) as (λ _. p ≡ r) [
            | inl new ↦ elim (place_added q r j also) as (λ _. p ≡ r) [
              | inl too ↦ new.0 ∙ sym too.0
              | inr old ↦ absurd (omega (arith, new.1, a.in_range r j old))
            ]
            | inr old ↦ elim (place_added q r j also) as (λ _. p ≡ r) [
              | inl new ↦ absurd (omega (arith, new.1, a.in_range p j old))
              | inr too ↦ a.apart p r j old too
            ]
          ];
        }

    -- a value that is changed where it stands
    pub changed_map : (f : V → V) (q : Prefix) (place : ℕ) (v : V) → fin.get t q ≡ Some place →
        slice_get vs place ≡ Some v → values_of (set vs place (f v)) t ≡ adjusted f q (values_of vs t)
    changed_map f q place v is there = written_map q place (f v) is
        ∙ ap (adjusted_by f q (values_of vs t)) (sym (value_of_place q place v is there))

    pub unchanged_map : (f : V → V) (q : Prefix) → fin.get t q ≡ None → values_of vs t ≡ adjusted f q (values_of vs t)
    unchanged_map f q none = ap (adjusted_by f q (values_of vs t)) (sym (none_of_places q none))

    -- the longest key that matches is the same
    pub longest_of_places : (addr : Addr) (most : ℕ) (p : Prefix) (place : ℕ) (v : V) →
        IsLongestMatch t addr most p place → slice_get vs place ≡ Some v → IsLongestMatch (values_of vs t) addr most p v
    longest_of_places addr most p place v m there = record {
      match = record {
        has = (m.match.has.0, same_keys p ∙ m.match.has.1);
        longest = λ q h. m.match.longest q (h.0, sym (same_keys q) ∙ h.1);
      };
      value = value_of_place p place v m.value there;
    }

    pub none_longest : (addr : Addr) (most : ℕ) → HasNoMatch t addr most → HasNoMatch (values_of vs t) addr most
    none_longest addr most none q h = none q (h.0, sym (same_keys q) ∙ h.1)

    -- the first entry after a prefix is that of the same key
    find_with : (after : Option Prefix) (es : List (Prefix × ℕ)) → T (is_sorted prefix_cmp es) →
        ((p : Prefix) (j : ℕ) → find prefix_cmp p es ≡ Some j → j < length vs)
        → list.find (λ e. is_after after e.0) (with_values vs es) ≡ option_and_then (with_value vs)
        (list.find (λ e. is_after after e.0) es)
    find_with after [] h range = refl
    find_with after (e ∷ es) h range =
        let head = first (below_all prefix_cmp e.0 es) (is_sorted prefix_cmp es) h in
        let there = get_there vs e.1
        (range e.0 e.1 (ap (λ b. cond b (Some e.1) (find prefix_cmp e.0 es)) (same_key e.0 e.0 refl))) in
        let rest = find_with after es (second (below_all prefix_cmp e.0 es) (is_sorted prefix_cmp es) h) (λ p j is.
        range p j (elim (eq_by_cmp prefix_cmp p e.0) as (λ b. eq_by_cmp prefix_cmp p e.0 ≡ b →
        cond b (Some e.1) (find prefix_cmp p es) ≡ Some j) [
          | true ↦ λ same. absurd (false≢true (ap is_some (sym (find_below e.0 es head)
              ∙ ap (λ k. find prefix_cmp k es) (sym (equal_keys p e.0 same)) ∙ is)))
          | false ↦ λ _. is
        ] refl)) in
        elim (slice_get vs e.1) as (λ o. slice_get vs e.1 ≡ o →
        list.find (λ e. is_after after e.0) (cons_option (option_map (λ v. (e.0, v)) o) (with_values vs es))
        ≡ option_and_then (with_value vs) (list.find (λ e. is_after after e.0) (e ∷ es))) [
          | None ↦ λ is. absurd (false≢true (sym (ap is_some is) ∙ there))
          | Some v ↦ λ is. elim (is_after after e.0) as (λ b.
              cond b (Some (e.0, v)) (list.find (λ e. is_after after e.0) (with_values vs es))
              ≡ option_and_then (with_value vs) (cond b (Some e) (list.find (λ e. is_after after e.0) es))) [
                | true ↦ ap (option_map (λ v. (e.0, v))) (sym is)
                | false ↦ rest
              ]
        ] refl

    pub first_of_places : (after : Option Prefix) → option_and_then (with_value vs) (first_after t after)
        ≡ first_after (values_of vs t) after
    first_of_places after =
        sym (ap (list.find (λ e. is_after after e.0)) (entries_of_values vs t)
        ∙ find_with after (fin.entries t) (fin.entries_sorted t) (λ p j is. a.in_range p j (fin.get-entries t p ∙ is)))

  -- what a walk adds
  pub with_values-append : (vs : List V) (es fs : List (Prefix × ℕ)) → with_values vs (es ++ fs) ≡ with_values vs es
      ++ with_values vs fs
  with_values-append vs es fs = filter_map-append (with_value vs) es fs

  pub own_entry : (vs : List V) (p : Prefix) (place : ℕ) (v : V) → slice_get vs place ≡ Some v →
      with_values vs (entry_or_not p (Some place) []) ≡ (p, v) ∷ []
  own_entry vs p place v there = ap (λ o. cons_option (option_map (λ w. (p, w)) o) []) there
