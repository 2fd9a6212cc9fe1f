-- Messages counted by direction, one after another.
use Rattle.std.proofs.Common.{◌≡◌, ℕ, ◌+◌, ◌≤◌, Bool, true, false, cond, List, [], ◌∷◌, ◌++◌, Option, Some, None, unwrap_or, refl, sym, ap, ◌∙◌, arith}
use Rattle.std.proofs.lemmas.Bool.{and_parts}
use Rattle.std.specs.Cmp.{unsigned_ties, both_tied}
use Rattle.std.specs.Map.{lookup}
use Rattle.std.specs.BTreeMap.{is_at, insert_entry}
use Rattle.net_prefix.specs.declared.addr.Addr.{Addr}
use Rattle.net_prefix.specs.Address.{same_addr}
use Rattle.session_queue.specs.declared.direction.Direction.{Direction}
use Rattle.session_queue.specs.Waiting.{direction_cmp, same_direction}
use Rattle.session_queue.proofs.Places.{direction_total}
use Rattle.reference_machine.proofs.Entries.{lookup_inserted}
use Rattle.cell_engine.proofs.Offers.{same_addr_true}
use Rattle.cell_engine.specs.Counts.{count_at}

-- ONE MORE

test_is : (d : Direction) (f t : Addr) → is_at (direction_cmp (record { from = f; to = t })) d
    ≡ same_direction d.from d.to f t
test_is d f t = sym (both_tied _ _ _ _ (unsigned_ties f.0 d.from.0) (unsigned_ties t.0 d.to.0))

or_default : (b : Bool) (n : ℕ) (o : Option ℕ) → unwrap_or (cond b (Some n) o) 0 ≡ cond b n (unwrap_or o 0)
or_default true n o = refl
or_default false n o = refl

-- the count of the direction goes up by one, the others stay
pub counted_one : (d : Direction) (es : List (Direction × ℕ)) (n : ℕ) → n ≡ count_at es d.from d.to + 1 → (f t : Addr) →
    count_at (insert_entry direction_cmp es d n) f t ≡ count_at es f t + cond (same_direction d.from d.to f t) 1 0
counted_one d es n is f t =
    ap (λ o. unwrap_or o 0) (lookup_inserted direction_total (record { from = f; to = t }) d n es)
    ∙ or_default (is_at (direction_cmp (record { from = f; to = t })) d) n
    (lookup (is_at (direction_cmp (record { from = f; to = t }))) es)
    ∙ ap (λ b. cond b n (count_at es f t)) (test_is d f t)
    ∙ by (same_direction d.from d.to f t) refl
  where
    by : (here : Bool) → same_direction d.from d.to f t ≡ here →
        cond here n (count_at es f t) ≡ count_at es f t + cond here 1 0
    by true here =
        let parts = and_parts (same_addr f d.from) (same_addr t d.to) here in
        let same : count_at es d.from d.to ≡ count_at es f t =
        λ i. count_at es (sym (same_addr_true f d.from parts.0) i) (sym (same_addr_true t d.to parts.1) i) in
        is ∙ ap (λ m. m + 1) same
    by false off = omega arith

-- WHAT A ROUTER SENDS

-- PLACES

-- with a direction more, whatever covers the others and this one covers all
pub counts_covered : (es : List (Direction × ℕ)) (d : Direction) (n : ℕ) (f t : Addr) (s : ℕ) → count_at es f t ≤ s →
    (same_direction d.from d.to f t ≡ true → n ≤ s) → count_at (es ++ (d, n) ∷ []) f t ≤ s
counts_covered [] d n f t s h one =
    elim (is_at (direction_cmp (record { from = f; to = t })) d) as (λ b.
    is_at (direction_cmp (record { from = f; to = t })) d ≡ b → unwrap_or (cond b (Some n) None) 0 ≤ s) [
      | true ↦ λ is. one (sym (test_is d f t) ∙ is)
      | false ↦ λ is. h
    ] refl
counts_covered (e ∷ es) d n f t s h one =
    elim (is_at (direction_cmp (record { from = f; to = t })) e.0) as (λ b.
    unwrap_or (cond b (Some e.1) (lookup (is_at (direction_cmp (record { from = f; to = t }))) es)) 0 ≤ s →
    unwrap_or (cond b (Some e.1) (lookup (is_at (direction_cmp (record { from = f; to = t }))) (es ++ (d, n) ∷ [])))
    0 ≤ s) [
      | true ↦ λ k. k
      | false ↦ λ k. counts_covered es d n f t s k one
    ] h
