-- What counts of standings: the routes that stand, and where one does, how they are compared.
use Rattle.std.proofs.Common.{◌≡◌, ℕ, Bool, true, false, ◌&&◌, List, [], ◌∷◌, map, length, Option, option_map, refl, sym, ap, ◌∙◌}
use Rattle.std.proofs.Math.Bool.{beq}
use Rattle.std.proofs.lemmas.Bool.{true≢false}
use Rattle.std.proofs.lemmas.List.{nil_from_length}
use Rattle.std.specs.declared.cmp.Ordering.TheVariants.{Less, Equal, Greater}
use Rattle.std.specs.FinMap as finite
use Rattle.std.specs.FinMap.{FinMap}
use Rattle.std.specs.FinMap.Entries as entries
use Rattle.route_select.specs.declared.candidate.Source.{Source}
use Rattle.route_select.specs.declared.candidate.Reason.{Reason}
use Rattle.route_select.specs.declared.candidate.Standing.{Standing}
use Rattle.route_select.specs.AtCost.{with_cost, lone_at_cost, at_cost}
use Rattle.route_select.specs.Selection.{source_cmp, Standings, no_standings, with_standing, standing_from, considered, considered_in, best_among, best_of, reason_for, reason_in}
use Rattle.route_select.proofs.EntryLemmas.{source_total, same_source}
use Rattle.reference_machine.specs.Decision.{added}
use Rattle.reference_machine.specs.Reports.{reasons_of}
use Rattle.cell_engine.specs.Cells.{is_any, has_any, effective}
use Rattle.cell_engine.specs.Updates.{ComparesAt, compared}

-- WHERE NO ROUTE STANDS

pub no_entries : finite.entries (finite.empty {K = Source} {X = Standing} {R = source_cmp}) ≡ []
no_entries = nil_from_length _ (sym (finite.len-entries (finite.empty {K = Source} {X = Standing} {R = source_cmp}))
    ∙ finite.len-empty source_cmp Standing)

pub effective_none : (always : Bool) → effective (no_standings always) ≡ no_standings false
effective_none always = λ i. record { known = finite.empty; med_always = is_any (no_entries i) && always }

none_there : (es : List (Source × Standing)) → is_any es ≡ false → length es ≡ 0
none_there [] none = refl
none_there (e ∷ es) none = absurd (true≢false none)

none_known : (m : Standings) → has_any m ≡ false → m.known ≡ finite.empty
none_known m none = finite.empty_of_len m.known (finite.len-entries m.known ∙ none_there (finite.entries m.known) none)

-- WHERE ONE DOES

any_put : (source : Source) (standing : Standing) (es : List (Source × Standing)) →
    is_any (entries.put source_cmp source standing es) ≡ true
any_put source standing [] = refl
any_put source standing (e ∷ es) =
    elim (source_cmp source e.0) as (λ o.
    is_any (entries.by_order o ((source, standing) ∷ e ∷ es) ((e.0, standing) ∷ es)
    (e ∷ entries.put source_cmp source standing es)) ≡ true) [
      | Less ↦ refl
      | Equal ↦ refl
      | Greater ↦ refl
    ]

any_inserted : (source : Source) (standing : Standing) (known : FinMap source_cmp Standing) →
    is_any (finite.entries (finite.insert known source standing)) ≡ true
any_inserted source standing known = ap is_any (finite.entries-insert source_total known source standing)
    ∙ any_put source standing (finite.entries known)

-- all counts
pub effective_with : (source : Source) (standing : Standing) (m : Standings) →
    effective (with_standing source standing m) ≡ with_standing source standing m
effective_with source standing m = λ i. record {
  known = finite.insert m.known source standing;
  med_always = any_inserted source standing m.known i && m.med_always;
}

-- WHAT IS SEEN

-- what does not depend on how none is compared
module _ {A : Type 0} (f : Bool → List (Source × Standing) → A) (none : (b c : Bool) → f b [] ≡ f c []) where
  by_entries : (always : Bool) (es : List (Source × Standing)) → f (is_any es && always) es ≡ f always es
  by_entries always [] = none false always
  by_entries always (e ∷ es) = refl

-- the best route
pub effective_best : (m : Standings) → best_of (effective m) ≡ best_of m
unfolding best_among
effective_best m = by_entries (λ always es. best_among always (considered_in es)) (λ b c. refl) m.med_always
    (finite.entries m.known)

-- why a source's route is not the best
pub effective_reason : (m : Standings) (source : Source) → reason_in (effective m) source ≡ reason_in m source
effective_reason m source =
    let reason : Bool → List (Source × Standing) →
    Option Reason = λ always es. option_map (reason_for always (considered_in es))
    (entries.find source_cmp source es) in
    ap (option_map (reason_for (effective m).med_always (considered m))) (finite.get-entries m.known source)
    ∙ by_entries reason (λ b c. refl) m.med_always (finite.entries m.known)
    ∙ sym (ap (option_map (reason_for m.med_always (considered m))) (finite.get-entries m.known source))

-- and why no route is
pub effective_reasons : (m : Standings) → reasons_of (effective m) ≡ reasons_of m
effective_reasons m =
    let reasons : Bool → List (Source × Standing) →
    List (Source × Reason) = λ always es. map (λ e. (e.0, reason_for always (considered_in es) e.1)) es in
    by_entries reasons (λ b c. refl) m.med_always (finite.entries m.known)

-- AT A COST

any_at_cost : (k : ℕ) (known : FinMap source_cmp Standing) (es : List (Source × Standing)) → finite.entries known ≡ es →
    is_any (finite.entries (lone_at_cost k known es)) ≡ is_any es
any_at_cost k known [] are = ap is_any are
any_at_cost k known (e ∷ []) are = any_inserted e.0 (with_cost k e.1) known
any_at_cost k known (e ∷ f ∷ es) are = ap is_any are

pub effective_at_cost : (k : ℕ) (m : Standings) → effective (at_cost k m) ≡ at_cost k (effective m)
effective_at_cost k m = λ i. record {
  known = lone_at_cost k m.known (finite.entries m.known);
  med_always = any_at_cost k m.known (finite.entries m.known) refl i && m.med_always;
}

-- HOW THEY ARE COMPARED

-- standings of the same sources that are compared alike are one
pub same_standings : (m n : Standings) → ((source : Source) → standing_from m source ≡ standing_from n source) →
    m.med_always ≡ n.med_always → m ≡ n
same_standings m n stand alike =
    let known : m.known ≡ n.known = finite.same_map source_total same_source m.known n.known stand in
    λ i. record { known = known i; med_always = alike i }

-- what is added leaves that
pub added_always : (m : Standings) (es : List (Source × Standing)) → (added m es).med_always ≡ m.med_always
added_always m [] = refl
added_always m (e ∷ es) = added_always (with_standing e.0 e.1 m) es

-- where of the two the same counts, and those are compared like that
module _ (m n : Standings) (always : Bool) (same : effective m ≡ effective n) (sets : n.med_always ≡ always) where
  pub compared_is : compared always m ≡ n
  compared_is = λ i. record { known = ap (λ (s : Standings). s.known) same i; med_always = sym sets i }

  pub compares_at : ComparesAt always m
  compares_at = same ∙ ap effective (sym compared_is)

nothing_by : (any b c : Bool) → (any && b) ≡ (any && c) → beq b c ≡ false → any ≡ false
nothing_by true true true same apart = absurd (true≢false apart)
nothing_by true false false same apart = absurd (true≢false apart)
nothing_by true true false same apart = absurd (true≢false same)
nothing_by true false true same apart = absurd (true≢false (sym same))
nothing_by false b c same apart = refl

-- where how they are compared does not count, no route stands
pub begun_anew : (always : Bool) (m : Standings) → ComparesAt always m → beq m.med_always always ≡ false →
    no_standings always ≡ compared always m
begun_anew always m same apart =
    let none = nothing_by (has_any m) m.med_always always (ap (λ (s : Standings). s.med_always) same) apart in
    λ i. record { known = sym (none_known m none) i; med_always = always }
