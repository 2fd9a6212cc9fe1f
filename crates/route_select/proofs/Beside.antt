-- An entry put in beside others, and a best that it leaves.
use Rattle.std.proofs.Common.{◌≡◌, ℕ, zero, suc, ◌<◌, ◌≤◌, ◌+◌, Bool, true, false, not, ◌&&◌, nat_lt, if◌then◌else◌, List, [], ◌∷◌, length, Option, Some, None, refl, sym, ap, subst, ◌∙◌, inl, inr, ◌⊎◌, arith}
use Rattle.std.proofs.lemmas.Bool.{false≢true, and_parts}
use Rattle.std.proofs.lemmas.Bool.Decides.{nat_tests}
use Rattle.std.specs.List.{insert, cons_option}
use Rattle.route_select.specs.declared.candidate.Source.{Source}
use Rattle.route_select.specs.declared.candidate.Candidate.{Candidate}
use Rattle.route_select.specs.declared.candidate.Standing.{Standing}
use Rattle.route_select.specs.Selection.{candidate_of, considered_in, same_group, filters}
use Rattle.route_select.specs.Entries.{candidate_at}
use Rattle.route_select.specs.Leaders.{In, ahead, unmed, Leads, Led}
use Rattle.route_select.specs.Groups.{AreRanked, IsBest, IsGroupStart, entry_at, group_rank, keeps_best}
use Rattle.route_select.proofs.Ranks.{same_trans, same_sym, same_itself}
use Rattle.route_select.proofs.Filtering.{cases_of, not_true, not_ahead_within, ahead_asym, never_ahead}
use Rattle.route_select.proofs.EntryLemmas.{Entries}
use Rattle.route_select.proofs.GroupMap.{best_moved}
use Rattle.route_select.proofs.GroupPositions.{has_position, none_behind, ranks_at}

-- WHAT STANDS WHERE

read_before : (es : Entries) (i j : ℕ) (e : Source × Standing) → j < i → i ≤ length es →
    entry_at (insert es i e) j ≡ entry_at es j
read_before [] zero j e lt le = absurd (omega arith)
read_before [] (suc i) j e lt le = absurd (omega arith)
read_before (x ∷ xs) zero j e lt le = absurd (omega arith)
read_before (x ∷ xs) (suc i) zero e lt le = refl
read_before (x ∷ xs) (suc i) (suc j) e lt le = read_before xs i j e (omega arith) (omega arith)

read_behind : (es : Entries) (i j : ℕ) (e : Source × Standing) → i ≤ j → i ≤ length es →
    entry_at (insert es i e) (suc j) ≡ entry_at es j
read_behind [] zero j e up le = refl
read_behind [] (suc i) j e up le = absurd (omega arith)
read_behind (x ∷ xs) zero j e up le = refl
read_behind (x ∷ xs) (suc i) zero e up le = absurd (omega arith)
read_behind (x ∷ xs) (suc i) (suc j) e up le = read_behind xs i j e (omega arith) (omega arith)

one_more : (j : ℕ) → j + 1 ≡ suc j
one_more j = omega arith

-- what stood at a position stands at the one to which it was moved
pub read_moved : (es : Entries) (i j : ℕ) (e : Source × Standing) → i ≤ length es →
    candidate_at (insert es i e) (if nat_lt j i then j else j + 1) ≡ candidate_at es j
read_moved es i j e le = elim (cases_of (nat_lt j i)) [
  | inl t ↦ rw t (ap (λ (x : Source × Standing). candidate_of x.1) (read_before es i j e (grind (arith, nat_tests)) le))
  | inr f ↦ rw f (ap (candidate_at (insert es i e)) (one_more j)
      ∙ ap (λ (x : Source × Standing). candidate_of x.1) (read_behind es i j e (grind (arith, nat_tests)) le))
]

-- the entry stands where it was put
pub read_here : (es : Entries) (i : ℕ) (e : Source × Standing) → i ≤ length es → entry_at (insert es i e) i ≡ e
read_here [] zero e le = refl
read_here [] (suc i) e le = absurd (omega arith)
read_here (x ∷ xs) zero e le = refl
read_here (x ∷ xs) (suc i) e le = read_here xs i e (omega arith)

-- WHAT IS CONSIDERED

in_cons : (o : Option Candidate) (xs : List Candidate) (n : Candidate) → In n (cons_option o xs) →
    (o ≡ Some n) ⊎ In n xs
in_cons None xs n i = inr i
in_cons (Some c) xs n (inl m) = inl (ap Some m)
in_cons (Some c) xs n (inr i) = inr i

cons_back : (o : Option Candidate) (xs : List Candidate) (n : Candidate) → In n xs → In n (cons_option o xs)
cons_back None xs n i = i
cons_back (Some c) xs n i = inr i

cons_here : (o : Option Candidate) (xs : List Candidate) (n : Candidate) → o ≡ Some n → In n (cons_option o xs)
cons_here None xs n is = absurd (cc)
cons_here (Some c) xs n is = inl (cc)

in_insert : (es : Entries) (i : ℕ) (e : Source × Standing) (n : Candidate) → i ≤ length es →
    In n (considered_in (insert es i e)) → (candidate_of e.1 ≡ Some n) ⊎ In n (considered_in es)
in_insert [] zero e n le j = in_cons (candidate_of e.1) [] n j
in_insert [] (suc i) e n le j = absurd (omega arith)
in_insert (x ∷ xs) zero e n le j = in_cons (candidate_of e.1) (considered_in (x ∷ xs)) n j
in_insert (x ∷ xs) (suc i) e n le j = elim (in_cons (candidate_of x.1) (considered_in (insert xs i e)) n j) [
  | inl m ↦ inr (cons_here (candidate_of x.1) (considered_in xs) n m)
  | inr k ↦ elim (in_insert xs i e n (omega arith) k) [
    | inl m ↦ inl m
    | inr l ↦
        inr (cons_back (candidate_of x.1) (considered_in xs) n l)
  ]
]

insert_back : (es : Entries) (i : ℕ) (e : Source × Standing) (n : Candidate) → i ≤ length es → In n (considered_in es) →
    In n (considered_in (insert es i e))
insert_back [] i e n le j = absurd j
insert_back (x ∷ xs) zero e n le j = cons_back (candidate_of e.1) (considered_in (x ∷ xs)) n j
insert_back (x ∷ xs) (suc i) e n le j = elim (in_cons (candidate_of x.1) (considered_in xs) n j) [
  | inl m ↦ cons_here (candidate_of x.1) (considered_in (insert xs i e)) n m
  | inr k ↦ cons_back (candidate_of x.1) (considered_in (insert xs i e)) n (insert_back xs i e n (omega arith) k)
]

insert_here : (es : Entries) (i : ℕ) (e : Source × Standing) (n : Candidate) → i ≤ length es →
    candidate_of e.1 ≡ Some n → In n (considered_in (insert es i e))
insert_here [] zero e n le is = cons_here (candidate_of e.1) [] n is
insert_here [] (suc i) e n le is = absurd (omega arith)
insert_here (x ∷ xs) zero e n le is = cons_here (candidate_of e.1) (considered_in (x ∷ xs)) n is
insert_here (x ∷ xs) (suc i) e n le is = cons_back (candidate_of x.1) (considered_in (insert xs i e)) n
    (insert_here xs i e n (omega arith) is)

-- THE BEST

-- one route more
record OneMore (more set : List Candidate) (c : Candidate) : Type 0 where
  into : (n : Candidate) → In n more → (c ≡ n) ⊎ In n set
  back : (n : Candidate) → In n set → In n more
  new : In c more

-- whether one of the routes is of the group of c
data Grouped (always : Bool) (set : List Candidate) (c : Candidate) : Type 0 where
  with_one : (n : Candidate) → In n set → same_group always n c ≡ true → Grouped always set c
  alone : ((n : Candidate) → In n set → same_group always n c ≡ false) → Grouped always set c

grouped : (always : Bool) (set : List Candidate) (c : Candidate) → Grouped always set c
grouped always [] c = alone (λ n i. absurd i)
grouped always (x ∷ xs) c = elim (cases_of (same_group always x c)) [
  | inl t ↦ with_one x (inl refl) t
  | inr f ↦ elim (grouped always xs c) [
    | with_one n i s ↦ with_one n (inr i) s
    | alone none ↦ alone (λ n i. elim i [ inl m ↦ subst (λ z. same_group always z c ≡ false) m f | inr j ↦ none n j ])
  ]
]

not_both : (p q : Bool) → (p && q) ≡ false → p ≡ true → q ≡ false
not_both true q is p = is
not_both false q is p = absurd (false≢true p)

module _ (always : Bool) (more set : List Candidate) (c : Candidate) (is : OneMore more set c) where
  leads_still : (l : Candidate) → Leads always set l → (same_group always c l && ahead always filters c l) ≡ false →
      Leads always more l
  leads_still l leads behind = record {
    member = is.back l leads.member;
    first = λ n i s. elim (is.into n i) [
      | inl m ↦ subst (λ z. ahead always filters z l ≡ false) m
          (not_both (same_group always c l) (ahead always filters c l) behind
          (subst (λ z. same_group always z l ≡ true) (sym m) s))
      | inr j ↦ leads.first n j s
    ];
  }

  -- c goes before the leader of its group
  leads_then : (l : Candidate) → Leads always set l → same_group always c l ≡ true → ahead always filters c l ≡ true →
      Leads always more c
  leads_then l leads same before = record {
    member = is.new;
    first = λ n i s. elim (is.into n i) [
      | inl m ↦ subst (λ z. ahead always filters z c ≡ false) m (never_ahead always filters c)
      | inr j ↦
          let t = same_trans always n c l s same in
          not_ahead_within always filters n l c t (same_sym always l c ∙ same) (leads.first n j t)
          (ahead_asym always filters c l before)
    ];
  }

  leads_alone : ((n : Candidate) → In n set → same_group always n c ≡ false) → Leads always more c
  leads_alone none = record {
    member = is.new;
    first = λ n i s. elim (is.into n i) [
      | inl m ↦ subst (λ z. ahead always filters z c ≡ false) m (never_ahead always filters c)
      | inr j ↦ absurd (false≢true (sym (none n j) ∙ s))
    ];
  }

  module _ (b : Candidate) (behind : ahead always unmed c b ≡ false) where
    led_still : (n : Candidate) → Led always set b n → Led always more b n
    led_still n led = elim (cases_of (same_group always c led.leader && ahead always filters c led.leader)) [
      | inl t ↦
          let parts = and_parts (same_group always c led.leader) (ahead always filters c led.leader) t in
          record {
            leader = c;
            leads = leads_then led.leader led.leads parts.0 parts.1;
            same = same_trans always n led.leader c led.same (same_sym always led.leader c ∙ parts.0);
            least = behind;
          }
      | inr f ↦ record {
        leader = led.leader;
        leads = leads_still led.leader led.leads f;
        same = led.same;
        least = led.least;
      }
    ]

    led_new : ((n : Candidate) → In n set → Led always set b n) → Led always more b c
    led_new all = elim (grouped always set c) [
      | with_one n i s ↦
          let led = led_still n (all n i) in
          record {
            leader = led.leader;
            leads = led.leads;
            same = same_trans always c n led.leader (same_sym always c n
                ∙ s) led.same;
            least = led.least;
          }
      | alone none ↦ record { leader = c; leads = leads_alone none; same = same_itself always c; least = behind }
    ]

    best_still : IsBest always set (Some b) → (same_group always c b && ahead always filters c b) ≡ false →
        IsBest always more (Some b)
    best_still best second = (
      leads_still b best.0 second,
      λ n i. elim (is.into n i) [
        | inl m ↦ subst (λ z. Led always more b z) m (led_new best.1)
        | inr j ↦ led_still n (best.1 n j)
      ],
    )

-- the best of the others is the best, where it stays
pub best_kept : (always : Bool) (es : Entries) (i j : ℕ) (e : Source × Standing) → i ≤ length es →
    IsBest always (considered_in es) (candidate_at es j) → keeps_best always (candidate_of e.1) (candidate_at es j)
    ≡ true → IsBest always (considered_in (insert es i e)) (candidate_at es j)
best_kept always es i j e le best keeps = by (candidate_at es j) (candidate_of e.1) refl best keeps
  where
    by : (o new : Option Candidate) → candidate_of e.1 ≡ new → IsBest always (considered_in es) o →
        keeps_best always new o ≡ true → IsBest always (considered_in (insert es i e)) o
    by None new is best keeps = absurd (false≢true keeps)
    by (Some b) None is best keeps = best_moved always (considered_in (insert es i e))
        (considered_in es) (Some b) (record {
          into = λ n k. elim (in_insert es i e n le k) [
            | inl m ↦ let w : None ≡ Some n = sym is ∙ m in
                absurd (cc)
            | inr l ↦ l
          ];
          back = λ n k. insert_back es i e n le k;
        }) best
    by (Some b) (Some c) is best keeps =
        let parts = and_parts (not (ahead always unmed c b))
        (not (same_group always c b && ahead always filters c b)) keeps in
        best_still always (considered_in (insert es i e)) (considered_in es) c (record {
          into = λ n k. elim (in_insert es i e n le k) [
            | inl m ↦ let w : Some c ≡ Some n = sym is ∙ m in
                inl (cc)
            | inr l ↦ inr l
          ];
          back = λ n k. insert_back es i e n le k;
          new = insert_here es i e c le is;
        }) b (not_true _ parts.0) best (not_true _ parts.1)

pub is_there : (always : Bool) (new o : Option Candidate) → keeps_best always new o ≡ true →
    (b : Candidate) × (o ≡ Some b)
is_there always new None keeps = absurd (false≢true keeps)
is_there always new (Some b) keeps = (b, refl)

-- WHERE A GROUP ENDS

-- behind a route that the next one is not grouped with
pub ends_at : (always : Bool) (es : Entries) (i : ℕ) (c : Candidate) → AreRanked always es →
    candidate_at es i ≡ Some c →
    ((n : Candidate) → candidate_at es (i + 1) ≡ Some n → group_rank always c + 1 ≤ group_rank always n) →
    IsGroupStart always es (group_rank always c + 1) (i + 1)
ends_at always es i c r here apart = record {
  in_range = let lt = has_position es i c here in omega arith;
  below = λ j lt n e. let low = ranks_at always es j i n c r e (omega arith) here in omega arith;
  from = λ k up n e. by (candidate_at es (i + 1)) refl k up n e;
}
  where
    by : (o : Option Candidate) → candidate_at es (i + 1) ≡ o → (k : ℕ) → (i + 1) ≤ k → (n : Candidate) →
        candidate_at es k ≡ Some n → group_rank always c + 1 ≤ group_rank always n
    by None none k up n e = absurd (none_behind always es (i + 1) k n r none up e)
    by (Some m) is k up n e =
        let high = apart m is in
        let on = ranks_at always es (i + 1) k m n r is up e in
        omega arith
