-- The best of the leaders, group by group.
use Rattle.std.proofs.Common.{◌≡◌, ℕ, ◌<◌, ◌≤◌, ◌+◌, Bool, true, false, cond, nat_lt, length, Option, Some, None, refl, sym, subst, ◌∙◌, inl, inr, arith}
use Rattle.std.proofs.lemmas.Bool.Decides.{nat_tests}
use Rattle.route_select.specs.declared.candidate.Candidate.{Candidate}
use Rattle.route_select.specs.Selection.{considered_in, same_group}
use Rattle.route_select.specs.Entries.{candidate_at}
use Rattle.route_select.specs.Leaders.{ahead, unmed}
use Rattle.route_select.specs.Groups.{group_rank, AreRanked, IsBest, IsGroupStart, is_better}
use Rattle.route_select.proofs.Ranks.{same_trans, same_itself}
use Rattle.route_select.proofs.Filtering.{cases_of}
use Rattle.route_select.proofs.Scan.{BestUpTo, best_step}
use Rattle.route_select.proofs.EntryLemmas.{Entries, position_of}
use Rattle.route_select.proofs.GroupOrder.{same_of_rank, rank_of_same}
use Rattle.route_select.proofs.GroupPositions.{leads_at, none_behind, ranks_at}

-- at is behind whole groups, and best is the position of the best of their leaders
pub record LeadersUpTo (always : Bool) (es : Entries) (at best : ℕ) : Type 0 where
  pub best_of : BestUpTo always es at (candidate_at es best)
  pub starts : (k : ℕ) → k < at → (n : Candidate) → candidate_at es k ≡ Some n → (c : Candidate) →
      candidate_at es at ≡ Some c → same_group always n c ≡ true → ⊥
  pub behind_best : best ≤ at
  pub in_range : at ≤ length es

best_first : (always : Bool) (es : Entries) (o : Option Candidate) → AreRanked always es → candidate_at es 0 ≡ o →
    BestUpTo always es 0 o
best_first always es None r e = λ k lt n w. omega arith
best_first always es (Some c) r e = (
  leads_at always es 0 c r e (λ k lt n w t. absurd (omega arith)),
  λ k lt n w. absurd (omega arith),
)

pub leaders_start : (always : Bool) (es : Entries) → AreRanked always es → LeadersUpTo always es 0 0
leaders_start always es r = record {
  best_of = best_first always es (candidate_at es 0) r refl;
  starts = λ k lt n e c w t. absurd (omega arith);
  behind_best = omega arith;
  in_range = omega arith;
}

-- the routes up to the next group are led as the leader is
best_through : (always : Bool) (es : Entries) (at next : ℕ) (o : Option Candidate) (c : Candidate) →
    candidate_at es at ≡ Some c → ((k : ℕ) → at ≤ k → k < next → (n : Candidate) → candidate_at es k ≡ Some n →
    same_group always n c ≡ true) → BestUpTo always es (at + 1) o → BestUpTo always es next o
best_through always es at next None c is same upto = λ k lt n e. absurd (upto at (omega arith) c is)
best_through always es at next (Some b) c is same upto = (
  upto.0,
  λ k lt n e. elim (cases_of (nat_lt k (at + 1))) [
    | inl t ↦ upto.1 k (grind (arith, nat_tests)) n e
    | inr f ↦
        let led = upto.1 at (omega arith) c is in
        record {
          leader = led.leader;
          leads = led.leads;
          same = same_trans always n c led.leader (same k (grind (arith, nat_tests)) lt n e) led.same;
          least = led.least;
        }
  ],
)

best_more : (always : Bool) (es : Entries) (at best : ℕ) (c : Candidate) → AreRanked always es →
    LeadersUpTo always es at best → candidate_at es at ≡ Some c →
    BestUpTo always es (at + 1)
    (candidate_at es (cond (is_better always (candidate_at es at) (candidate_at es best)) at best))
best_more always es at best c r is here = go (candidate_at es at) (candidate_at es best) refl refl
  where
    go : (p o : Option Candidate) → candidate_at es at ≡ p → candidate_at es best ≡ o →
        BestUpTo always es (at + 1) (candidate_at es (cond (is_better always p o) at best))
    go None o x y = let w : None ≡ Some c = sym x ∙ here in absurd (cc)
    go (Some q) None x y = absurd (none_behind always es best at q r y is.behind_best x)
    go (Some q) (Some b) x y =
        let leads = leads_at always es at q r x (λ k lt n e s. is.starts k lt n e q x s) in
        let step = best_step always es at (Some b) q q (subst (BestUpTo always es at) y is.best_of) x leads
        (same_itself always q) in
        elim (cases_of (ahead always unmed q b)) [
          | inl t ↦ rw t (subst (BestUpTo always es (at + 1)) (sym x) (rw t at step))
          | inr f ↦ rw f (subst (BestUpTo always es (at + 1)) (sym y) (rw f at step))
        ]

position_of_better : (b : Bool) (at best : ℕ) → best ≤ at → cond b at best ≤ at
position_of_better true at best le = omega arith
position_of_better false at best le = le

pub goes_on : (always : Bool) (es : Entries) (at next : ℕ) (c : Candidate) → candidate_at es at ≡ Some c →
    IsGroupStart always es (group_rank always c + 1) next → at < next
goes_on always es at next c here start = elim (cases_of (nat_lt at next)) [
  | inl t ↦ grind (arith, nat_tests)
  | inr f ↦ let up = start.from at (grind (arith, nat_tests)) c here in absurd (omega arith)
]

-- one group more
pub leaders_more : (always : Bool) (es : Entries) (at best next : ℕ) (c : Candidate) → AreRanked always es →
    LeadersUpTo always es at best → candidate_at es at ≡ Some c →
    IsGroupStart always es (group_rank always c + 1) next →
    LeadersUpTo always es next (cond (is_better always (candidate_at es at) (candidate_at es best)) at best)
leaders_more always es at best next c r is here start = record {
  best_of = best_through always es at next _ c here (λ k up lt n e.
      let low = start.below k lt n e in
      let high = ranks_at always es at k c n r here up e in
      same_of_rank always n c (omega arith)) (best_more always es at best c r is here);
  starts = λ k lt n e d w s.
      let low = start.below k lt n e in
      let high = start.from next (omega arith) d w in
      let same = rank_of_same always n d s in
      omega arith;
  behind_best =
      let le = position_of_better (is_better always (candidate_at es at) (candidate_at es best)) at
      best is.behind_best in
      let lt = goes_on always es at next c here start in
      omega arith;
  in_range = start.in_range;
}

best_all : (always : Bool) (es : Entries) (at : ℕ) (o : Option Candidate) → AreRanked always es →
    candidate_at es at ≡ None → BestUpTo always es at o → IsBest always (considered_in es) o
best_all always es at o r none is = go o is
  where
    before_end : (k : ℕ) (n : Candidate) → candidate_at es k ≡ Some n → k < at
    before_end k n e = elim (cases_of (nat_lt k at)) [
      | inl t ↦ grind (arith, nat_tests)
      | inr f ↦
          absurd (none_behind always es at k n r none (grind (arith, nat_tests)) e)
    ]

    go : (o : Option Candidate) → BestUpTo always es at o → IsBest always (considered_in es) o
    go None is = λ n j. let p = position_of es n j in is p.0 (before_end p.0 n p.2) n p.2
    go (Some b) is = (is.0, λ n j. let p = position_of es n j in is.1 p.0 (before_end p.0 n p.2) n p.2)

pub leaders_all : (always : Bool) (es : Entries) (at best : ℕ) → AreRanked always es → LeadersUpTo always es at best →
    candidate_at es at ≡ None → IsBest always (considered_in es) (candidate_at es best)
leaders_all always es at best r is none = best_all always es at (candidate_at es best) r none is.best_of
