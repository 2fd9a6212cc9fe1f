-- A row more in a tree's rows.
use Rattle.std.proofs.Common.{◌≡◌, ℕ, suc, ◌+◌, ◌-◌, ◌<◌, ◌≤◌, ◌≢◌, cond, List, [], ◌∷◌, ◌++◌, take, drop, length, get_or, Some, sym, ap, ◌∙◌, inl, inr, arith}
use Rattle.std.specs.List.{insert}
use Rattle.std.specs.Map.{lookup}
use Rattle.std.specs.BTreeMap.{is_at}
use Rattle.std.proofs.lemmas.Bool.{cases_lt}
use Rattle.std.proofs.lemmas.List.{take-append-drop}
use Rattle.std.proofs.lemmas.List.Edits.{length-insert, get_or-insert_below, get_or-insert_at, get_or-insert_above}
use Rattle.net_prefix.specs.declared.addr.Addr.{Addr}
use Rattle.net_prefix.specs.Address.{addr_cmp}
use Rattle.igp_cost.specs.declared.label.Label.{Label}
use Rattle.igp_cost.specs.Wired.{no_row, AreAscending}
use Rattle.igp_cost.proofs.Places.{key_at, rises_from_steps, lookup_later}

abbrev Rows : Type 0
Rows = List (Addr × Label)

-- rows with one between those below it and those above it rise
pub insert_rises : (rows : Rows) (at : ℕ) (e : Addr × Label) → AreAscending rows → at ≤ length rows →
    ((i : ℕ) → i < at → (key_at no_row rows i).0 < e.0.0) →
    ((i : ℕ) → at ≤ i → i < length rows → e.0.0 < (key_at no_row rows i).0) → AreAscending (insert rows at e)
insert_rises rows at e rising at_in below above = rises_from_steps no_row (insert rows at e) steps
  where
    number : Addr × Label → ℕ
    number x = x.0.0

    count : length (insert rows at e) ≡ length rows + 1
    count = length-insert rows at e at_in

    early : (k : ℕ) → k < at → number (get_or (insert rows at e) k no_row) ≡ number (get_or rows k no_row)
    early k lt = ap number (get_or-insert_below rows at e no_row k lt at_in)

    here : (k : ℕ) → at ≡ k → number (get_or (insert rows at e) k no_row) ≡ e.0.0
    here k same = ap (λ n. number (get_or (insert rows at e) n no_row)) (sym same)
        ∙ ap number (get_or-insert_at rows at e no_row at_in)

    late : (k : ℕ) → at ≤ k → number (get_or (insert rows at e) (suc k) no_row) ≡ number (get_or rows k no_row)
    late k le =
        let up : suc k ≡ k + 1 = omega arith in
        ap (λ n. number (get_or (insert rows at e) n no_row)) up
        ∙ ap number (get_or-insert_above rows at e no_row k le at_in)

    later : (k : ℕ) → at < k → number (get_or (insert rows at e) k no_row) ≡ number (get_or rows (k - 1) no_row)
    later k lt =
        let up : suc (k - 1) ≡ k = omega (arith, lt) in
        ap (λ n. number (get_or (insert rows at e) n no_row)) (sym up) ∙ late (k - 1) (omega (arith, lt))

    steps : (i : ℕ) → suc i < length (insert rows at e) →
        (key_at no_row (insert rows at e) i).0 < (key_at no_row (insert rows at e) (suc i)).0
    steps i lt = elim (cases_lt i at) as (λ _. number (get_or (insert rows at e) i no_row)
        < number (get_or (insert rows at e) (suc i) no_row)) [
          | inl before ↦ elim (cases_lt (suc i) at) as (λ _. number (get_or (insert rows at e) i no_row)
              < number (get_or (insert rows at e) (suc i) no_row)) [
                | inl next ↦ omega (
                  arith,
                  early i before,
                  early (suc i) next,
                  rising i (suc i) (omega arith) (omega (arith, next, at_in)),
                )
                | inr end ↦ omega (arith, early i before, here (suc i) (omega (arith, before, end)), below i before)
              ]
          | inr after ↦ elim (cases_lt at i) as (λ _. number (get_or (insert rows at e) i no_row)
              < number (get_or (insert rows at e) (suc i) no_row)) [
                | inl past ↦ omega (
                  arith,
                  later i past,
                  late i after,
                  rising (i - 1) i (omega (arith, past)) (omega (arith, lt, count)),
                )
                | inr end ↦ omega (
                  arith,
                  here i (omega (arith, after, end)),
                  late i after,
                  above i after (omega (arith, lt, count)),
                )
              ]
        ]

skip : (front back : Rows) (e : Addr × Label) (x : Addr) → x ≢ e.0 → lookup (is_at (addr_cmp x)) (front ++ e ∷ back)
    ≡ lookup (is_at (addr_cmp x)) (front ++ back)
skip [] back e x differs = lookup_later no_row e back x (λ same. differs (sym same))
skip (f ∷ front) back e x differs = ap (λ o. cond (is_at (addr_cmp x) f.0) (Some f.1) o) (skip front back e x differs)

-- and say the same of other addresses
pub insert_others : (rows : Rows) (at : ℕ) (e : Addr × Label) (x : Addr) → x ≢ e.0 →
    lookup (is_at (addr_cmp x)) (insert rows at e) ≡ lookup (is_at (addr_cmp x)) rows
insert_others rows at e x differs = skip (take at rows) (drop at rows) e x differs
    ∙ ap (λ l. lookup (is_at (addr_cmp x)) l) (take-append-drop at rows)
