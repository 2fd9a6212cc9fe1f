-- Where groups start and who leads them, by positions.
use Rattle.std.proofs.Common.{◌≡◌, ℕ, zero, suc, ◌<◌, ◌≤◌, Bool, true, false, not, ◌&&◌, ◌==◌, nat_lt, [], ◌∷◌, length, get_or, Some, None, refl, sym, ap, subst, ◌∙◌, inl, inr, arith}
use Rattle.std.proofs.lemmas.Bool.{false≢true}
use Rattle.std.proofs.lemmas.Bool.Decides.{nat_tests}
use Rattle.std.proofs.lemmas.List.{get_or_default}
use Rattle.std.specs.List.Sorted.{IsPartitionedBy, IsPartitionPoint}
use Rattle.route_select.specs.declared.candidate.Source.{Source}
use Rattle.route_select.specs.declared.candidate.Source.TheVariants.{Own}
use Rattle.route_select.specs.declared.candidate.Reason.TheVariants.{Loop}
use Rattle.route_select.specs.declared.candidate.Candidate.{Candidate}
use Rattle.route_select.specs.declared.candidate.Standing.{Standing}
use Rattle.route_select.specs.declared.candidate.Standing.TheVariants.{Excluded, Considered}
use Rattle.route_select.specs.Selection.{candidate_of, considered_in, same_group, filters}
use Rattle.route_select.specs.Entries.{candidate_at}
use Rattle.route_select.specs.Leaders.{In, ahead, Leads}
use Rattle.route_select.specs.Groups.{group_rank, stands_before, before, AreRanked, IsSlot, IsGroupStart, entry_at, is_below}
use Rattle.route_select.proofs.Filtering.{or_false, cases_of, not_true, never_ahead}
use Rattle.route_select.proofs.EntryLemmas.{Entries, considered_at, position_of, one_there}
use Rattle.route_select.proofs.GroupOrder.{same_rank, same_of_rank, rank_of_same, before_chain}

in_at : (es : Entries) (k : ℕ) → k < length es → In (entry_at es k) es
in_at [] k lt = absurd (omega arith)
in_at (e ∷ es) zero lt = inl refl
in_at (e ∷ es) (suc k) lt = inr (in_at es k (omega arith))

ranked_at : (always : Bool) (es : Entries) (j k : ℕ) → AreRanked always es → j < k → k < length es →
    before always (entry_at es k) (entry_at es j) ≡ false
ranked_at always [] j k r lt in_range = absurd (omega arith)
ranked_at always (e ∷ es) j zero r lt in_range = absurd (omega arith)
ranked_at always (e ∷ es) zero (suc k) r lt in_range = r.0 (entry_at es k) (in_at es k (omega arith))
ranked_at always (e ∷ es) (suc j) (suc k) r lt in_range = ranked_at always es j k r.1 (omega arith) (omega arith)

ranked_read : (always : Bool) (es : Entries) (j k : ℕ) (d : Source × Standing) → AreRanked always es → j < k →
    k < length es → before always (get_or es k d) (get_or es j d) ≡ false
ranked_read always es j k d r lt in_range =
    let same = λ (i : ℕ) (h : i < length es). get_or_default es i (Own, Excluded Loop) d h in
    subst (λ e. before always e (get_or es j d) ≡ false) (same k in_range)
    (subst (λ e. before always (entry_at es k) e ≡ false) (same j (omega arith))
    (ranked_at always es j k r lt in_range))

pub has_position : (es : Entries) (k : ℕ) (n : Candidate) → candidate_at es k ≡ Some n → k < length es
has_position [] k n e = absurd (cc)
has_position (e ∷ es) zero n is = omega arith
has_position (e ∷ es) (suc k) n is = let lt = has_position es k n is in omega arith

both_considered : (always : Bool) (e f : Source × Standing) (b a : Candidate) → before always e f ≡ false →
    candidate_of e.1 ≡ Some b → candidate_of f.1 ≡ Some a → stands_before always b a ≡ false
both_considered always (s, Excluded r) f b a h p q = absurd (cc)
both_considered always (s, Considered c) (t, Excluded r) b a h p q = absurd (cc)
both_considered always (s, Considered c) (t, Considered d) b a h p q =
    let m : c ≡ b = cc in
    let k : d ≡ a = cc in
    subst (λ z. stands_before always b z ≡ false) k (subst (λ z. stands_before always z d ≡ false) m h)

in_order : (always : Bool) (es : Entries) (j k : ℕ) (a b : Candidate) → AreRanked always es → j < k →
    candidate_at es j ≡ Some a → candidate_at es k ≡ Some b → stands_before always b a ≡ false
in_order always es j k a b r lt p q = both_considered always (entry_at es k) (entry_at es j) b a
    (ranked_at always es j k r lt (has_position es k b q)) q p

none_before : (always : Bool) (e f : Source × Standing) (b : Candidate) → before always e f ≡ false →
    candidate_of e.1 ≡ Some b → candidate_of f.1 ≡ None → ⊥
none_before always (s, Excluded r) f b h p q = absurd (cc)
none_before always (s, Considered c) (t, Excluded r) b h p q = false≢true (sym h)
none_before always (s, Considered c) (t, Considered d) b h p q = absurd (cc)

not_ahead_of : (always : Bool) (b a : Candidate) → stands_before always b a ≡ false → same_group always b a ≡ true →
    ahead always filters b a ≡ false
not_ahead_of always b a h s =
    let w = or_false (nat_lt (group_rank always b) (group_rank always a)) (group_rank always b == group_rank always a
    && ahead always filters b a) h in
    subst (λ t. (t && ahead always filters b a) ≡ false) (same_rank always b a ∙ s) w.1

ranks_rise : (always : Bool) (b a : Candidate) → stands_before always b a ≡ false →
    group_rank always a ≤ group_rank always b
ranks_rise always b a h =
    let w = or_false (nat_lt (group_rank always b) (group_rank always a)) (group_rank always b == group_rank always a
    && ahead always filters b a) h in
    not_less (group_rank always b) (group_rank always a) w.0
  where
    not_less : (x y : ℕ) → nat_lt x y ≡ false → y ≤ x
    not_less x y t = grind (arith, nat_tests)

data Apart (j k : ℕ) : Type 0 where
  less : j < k → Apart j k
  equal : j ≡ k → Apart j k
  more : k < j → Apart j k

apart : (j k : ℕ) → Apart j k
apart zero zero = equal refl
apart zero (suc k) = less (omega arith)
apart (suc j) zero = more (omega arith)
apart (suc j) (suc k) = elim (apart j k) [
  | less h ↦ less (omega arith)
  | equal e ↦ equal (ap suc e)
  | more h ↦
      more (omega arith)
]

-- the first of its group leads
pub leads_at : (always : Bool) (es : Entries) (i : ℕ) (c : Candidate) → AreRanked always es →
    candidate_at es i ≡ Some c → ((k : ℕ) → k < i → (n : Candidate) → candidate_at es k ≡ Some n →
    same_group always n c ≡ true → ⊥) → Leads always (considered_in es) c
leads_at always es i c r at none = record {
  member = considered_at es i c (has_position es i c at) at;
  first = λ n j s.
      let p = position_of es n j in
      elim (apart p.0 i) [
        | less h ↦ absurd (none p.0 h n p.2 s)
        | equal e ↦
            let m' : n ≡ c = one_there _ n c p.2 (ap (candidate_at es) e ∙ at) in
            subst (λ z. ahead always filters z c ≡ false) (sym m') (never_ahead always filters c)
        | more h ↦ not_ahead_of always n c (in_order always es i p.0 c n r h at p.2) s
      ];
}

-- no entry before one that the new entry does not go before has the new one go before it
pub slot_parted : (always : Bool) (es : Entries) (e : Source × Standing) → AreRanked always es →
    IsPartitionedBy (λ x. not (before always e x)) es
slot_parted always es e r = λ i j d low within holds. elim (apart i j) [
  | less h ↦ ap not (before_chain always e (get_or es j d) (get_or es i d) (not_true _ holds)
      (ranked_read always es i j d r h within))
  | equal m ↦ subst (λ k. not (before always e (get_or es k d)) ≡ true) (sym m) holds
  | more h ↦ absurd (omega arith)
]

not_false : (b : Bool) → not b ≡ false → b ≡ true
not_false true h = refl
not_false false h = absurd (false≢true (sym h))

pub slot_of : (always : Bool) (es : Entries) (e : Source × Standing) (i : ℕ) → i ≤ length es →
    IsPartitionPoint (λ x. not (before always e x) ≡ true) (λ x. not (before always e x) ≡ false) es i →
    IsSlot always es e i
slot_of always es e i le point = record {
  in_range = le;
  after = λ j lt. not_true _ (point.0 j (Own, Excluded Loop) (omega arith) lt);
  here = λ lt. not_false _ (point.1 i (Own, Excluded Loop) (omega arith) lt);
}

below_back : (always : Bool) (rank : ℕ) (e f : Source × Standing) → before always e f ≡ false →
    is_below always rank e ≡ true → is_below always rank f ≡ true
below_back always rank (s, Excluded r) f h t = absurd (false≢true t)
below_back always rank (s, Considered c) (t, Excluded r) h b = absurd (false≢true (sym h))
below_back always rank (s, Considered c) (t, Considered d) h b = lower (group_rank always c) (group_rank always d) rank
    (ranks_rise always c d h) b
  where
    lower : (x y z : ℕ) → y ≤ x → nat_lt x z ≡ true → nat_lt y z ≡ true
    lower x y z le t = grind (arith, nat_tests)

pub start_parted : (always : Bool) (es : Entries) (rank : ℕ) → AreRanked always es →
    IsPartitionedBy (is_below always rank) es
start_parted always es rank r = λ i j d low within holds. elim (apart i j) [
  | less h ↦ below_back always rank (get_or es j d) (get_or es i d) (ranked_read always es i j d r h within) holds
  | equal m ↦ subst (λ k. is_below always rank (get_or es k d) ≡ true) (sym m) holds
  | more h ↦ absurd (omega arith)
]

is_lower : (always : Bool) (rank : ℕ) (e : Source × Standing) (n : Candidate) → is_below always rank e ≡ true →
    candidate_of e.1 ≡ Some n → group_rank always n < rank
is_lower always rank (s, Excluded r) n t e = absurd (false≢true t)
is_lower always rank (s, Considered c) n t e =
    let m : c ≡ n = cc in
    subst (λ z. group_rank always z < rank) m (lower (group_rank always c) rank t)
  where
    lower : (x y : ℕ) → nat_lt x y ≡ true → x < y
    lower x y t = grind (arith, nat_tests)

is_not_lower : (always : Bool) (rank : ℕ) (e : Source × Standing) (n : Candidate) → is_below always rank e ≡ false →
    candidate_of e.1 ≡ Some n → rank ≤ group_rank always n
is_not_lower always rank (s, Excluded r) n t e = absurd (cc)
is_not_lower always rank (s, Considered c) n t e =
    let m : c ≡ n = cc in
    subst (λ z. rank ≤ group_rank always z) m (lower (group_rank always c) rank t)
  where
    lower : (x y : ℕ) → nat_lt x y ≡ false → y ≤ x
    lower x y t = grind (arith, nat_tests)

pub start_of : (always : Bool) (es : Entries) (rank i : ℕ) → i ≤ length es →
    IsPartitionPoint (λ x. is_below always rank x ≡ true) (λ x. is_below always rank x ≡ false) es i →
    IsGroupStart always es rank i
start_of always es rank i le point = record {
  in_range = le;
  below = λ j lt n e. is_lower always rank (entry_at es j) n (point.0 j (Own, Excluded Loop) (omega arith) lt) e;
  from = λ k up n e. is_not_lower always rank (entry_at es k) n
      (point.1 k (Own, Excluded Loop) up (has_position es k n e)) e;
}

-- behind an entry that is excluded none is considered
pub none_behind : (always : Bool) (es : Entries) (i k : ℕ) (n : Candidate) → AreRanked always es →
    candidate_at es i ≡ None → i ≤ k → candidate_at es k ≡ Some n → ⊥
none_behind always es i k n r none up is = elim (apart i k) [
  | less h ↦ none_before always (entry_at es k) (entry_at es i) n
      (ranked_at always es i k r h (has_position es k n is)) is none
  | equal m ↦ let w : None ≡ Some n = sym none ∙ ap (candidate_at es) m ∙ is in cc
  | more h ↦ absurd (omega arith)
]

pub ranks_at : (always : Bool) (es : Entries) (i k : ℕ) (c n : Candidate) → AreRanked always es →
    candidate_at es i ≡ Some c → i ≤ k → candidate_at es k ≡ Some n → group_rank always c ≤ group_rank always n
ranks_at always es i k c n r at up is = elim (apart i k) [
  | less h ↦ ranks_rise always n c (in_order always es i k c n r h at is)
  | equal m ↦
      subst (λ z. group_rank always c ≤ group_rank always z) (one_there _ c n at (ap (candidate_at es) m ∙ is))
      (omega arith)
  | more h ↦ absurd (omega arith)
]

-- the route where its own group starts
pub start_some : (always : Bool) (es : Entries) (i : ℕ) (like : Candidate) → AreRanked always es →
    In like (considered_in es) → IsGroupStart always es (group_rank always like) i → candidate_at es i ≡ None → ⊥
start_some always es i like r member start none =
    let p = position_of es like member in
    elim (cases_of (nat_lt p.0 i)) [
      | inl t ↦ let low = start.below p.0 (grind (arith, nat_tests)) like p.2 in omega arith
      | inr f ↦ none_behind always es i p.0 like r none (grind (arith, nat_tests)) p.2
    ]

pub start_same : (always : Bool) (es : Entries) (i : ℕ) (like l : Candidate) → AreRanked always es →
    In like (considered_in es) → IsGroupStart always es (group_rank always like) i → candidate_at es i ≡ Some l →
    same_group always like l ≡ true
start_same always es i like l r member start at =
    let p = position_of es like member in
    let high = start.from i (omega arith) l at in
    elim (cases_of (nat_lt p.0 i)) [
      | inl t ↦ let low = start.below p.0 (grind (arith, nat_tests)) like p.2 in absurd (omega arith)
      | inr f ↦ let low = ranks_at always es i p.0 l like r at (grind (arith, nat_tests)) p.2 in
          same_of_rank always like l (omega arith)
    ]

pub start_leads : (always : Bool) (es : Entries) (i : ℕ) (like l : Candidate) → AreRanked always es →
    In like (considered_in es) → IsGroupStart always es (group_rank always like) i → candidate_at es i ≡ Some l →
    Leads always (considered_in es) l
start_leads always es i like l r member start at =
    let equal = rank_of_same always like l (start_same always es i like l r member start at) in
    leads_at always es i l r at (λ k lt n e s. let low = start.below k lt n e in let same = rank_of_same always n l s in
    omega arith)
