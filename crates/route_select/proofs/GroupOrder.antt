-- The order in which entries stand in groups, and what a change leaves of it.
use Rattle.std.proofs.Common.{◌≡◌, ℕ, zero, suc, Bool, true, false, not, cond, ◌&&◌, ◌||◌, ◌==◌, nat_lt, ◌+◌, [], ◌∷◌, length, filter, Option, Some, None, refl, sym, ap, subst, ◌∙◌, inl, inr, ◌⊎◌, arith}
use Rattle.std.proofs.lemmas.Bool.{false≢true}
use Rattle.std.proofs.lemmas.Bool.Decides.{nat_tests}
use Rattle.std.specs.List.{insert}
use Rattle.std.specs.declared.cmp.Ordering.{Ordering}
use Rattle.std.specs.declared.cmp.Ordering.TheVariants.{Less, Equal, Greater}
use Rattle.std.specs.Ordering.{is_lt, ordering_reverse, eq_by_cmp}
use Rattle.path_attr.specs.Number.{same_number}
use Rattle.path_attr.specs.Path.{neighbour}
use Rattle.route_select.specs.declared.candidate.Source.{Source}
use Rattle.route_select.specs.declared.candidate.Candidate.{Candidate}
use Rattle.route_select.specs.declared.candidate.Standing.{Standing}
use Rattle.route_select.specs.declared.candidate.Standing.TheVariants.{Excluded, Considered}
use Rattle.route_select.specs.Selection.{source_cmp, IsFrom, same_group, filters}
use Rattle.route_select.specs.Entries.{EachIsFrom}
use Rattle.route_select.specs.Leaders.{In, ahead}
use Rattle.route_select.specs.Groups.{number_rank, group_rank, stands_before, before, AreRanked, without, IsSlot}
use Rattle.route_select.proofs.Filtering.{cases_of, refuted, in_filter, not_ahead_within, ahead_asym}
use Rattle.route_select.proofs.EntryLemmas.{Entries, each_other, less_of, same_source, source_total}

same_number_rank : (a b : Option ℕ) → (number_rank a == number_rank b) ≡ same_number a b
same_number_rank None None = refl
same_number_rank None (Some b) = grind (arith, nat_tests)
same_number_rank (Some a) None = grind (arith, nat_tests)
same_number_rank (Some a) (Some b) = grind (arith, nat_tests)

pub same_rank : (always : Bool) (a b : Candidate) → (group_rank always a == group_rank always b) ≡ same_group always a b
same_rank true a b = refl
same_rank false a b = same_number_rank (neighbour a.attr.path) (neighbour b.attr.path)

tested : (x y : ℕ) → x ≡ y → (x == y) ≡ true
tested x y e = grind (arith, nat_tests)

pub same_of_rank : (always : Bool) (a b : Candidate) → group_rank always a ≡ group_rank always b →
    same_group always a b ≡ true
same_of_rank always a b e = sym (same_rank always a b) ∙ tested (group_rank always a) (group_rank always b) e

pub rank_of_same : (always : Bool) (a b : Candidate) → same_group always a b ≡ true →
    group_rank always a ≡ group_rank always b
rank_of_same always a b s =
    let t : (group_rank always a == group_rank always b) ≡ true = same_rank always a b ∙ s in
    ranks_tested (group_rank always a) (group_rank always b) t
  where
    ranks_tested : (x y : ℕ) → (x == y) ≡ true → x ≡ y
    ranks_tested x y t = grind (arith, nat_tests)

lex_asym : (x y : ℕ) (p q : Bool) → (p ≡ true → q ≡ false) → (nat_lt x y || (x == y && p)) ≡ true →
    (nat_lt y x || (y == x && q)) ≡ false
lex_asym x y true true f h = absurd (false≢true (sym (f refl)))
lex_asym x y true false f h = grind (arith, nat_tests)
lex_asym x y false true f h = grind (arith, nat_tests)
lex_asym x y false false f h = grind (arith, nat_tests)

stands_asym : (always : Bool) (a b : Candidate) → stands_before always a b ≡ true → stands_before always b a ≡ false
stands_asym always a b h = lex_asym (group_rank always a) (group_rank always b) (ahead always filters a b)
    (ahead always filters b a) (ahead_asym always filters a b) h

lex_equal : (x y z : ℕ) → (nat_lt x y || (x == y && false)) ≡ false → (nat_lt y z || (y == z && false)) ≡ false →
    (nat_lt x z || (x == z && true)) ≡ true → (x ≡ y) × (y ≡ z)
lex_equal x y z h g t = (first x y z h g t, second x y z h g t)
  where
    first : (x y z : ℕ) → (nat_lt x y || (x == y && false)) ≡ false → (nat_lt y z || (y == z && false)) ≡ false →
        (nat_lt x z || (x == z && true)) ≡ true → x ≡ y
    first x y z h g t = grind (arith, nat_tests)

    second : (x y z : ℕ) → (nat_lt x y || (x == y && false)) ≡ false → (nat_lt y z || (y == z && false)) ≡ false →
        (nat_lt x z || (x == z && true)) ≡ true → y ≡ z
    second x y z h g t = grind (arith, nat_tests)

lex_chain : (x y z : ℕ) (p q r : Bool) → (x ≡ y → y ≡ z → p ≡ false → q ≡ false → r ≡ false) →
    (nat_lt x y || (x == y && p)) ≡ false → (nat_lt y z || (y == z && q)) ≡ false →
    (nat_lt x z || (x == z && r)) ≡ false
lex_chain x y z p q false f h g = grind (arith, nat_tests)
lex_chain x y z true q true f h g = grind (arith, nat_tests)
lex_chain x y z false true true f h g = grind (arith, nat_tests)
lex_chain x y z false false true f h g = refuted (nat_lt x z || (x == z && true)) (λ t. let w = lex_equal x y z h g t in
    absurd (false≢true (sym (f w.0 w.1 refl refl))))

stands_chain : (always : Bool) (a b c : Candidate) → stands_before always a b ≡ false →
    stands_before always b c ≡ false → stands_before always a c ≡ false
stands_chain always a b c h g = lex_chain (group_rank always a) (group_rank always b) (group_rank always c)
    (ahead always filters a b) (ahead always filters b c) (ahead always filters a c)
    (λ e f. not_ahead_within always filters a b c (same_of_rank always a b e) (same_of_rank always b c f)) h g

source_lt_asym : (s t : Source) → is_lt (source_cmp s t) ≡ true → is_lt (source_cmp t s) ≡ false
source_lt_asym s t h = ap is_lt (source_total.antisymm t s ∙ ap ordering_reverse (less_of (source_cmp s t) h))

source_lt_chain : (s t u : Source) → is_lt (source_cmp s t) ≡ false → is_lt (source_cmp t u) ≡ false →
    is_lt (source_cmp s u) ≡ false
source_lt_chain s t u h g = go (source_cmp s t) refl
  where
    go : (o : Ordering) → source_cmp s t ≡ o → is_lt (source_cmp s u) ≡ false
    go Less e = absurd (false≢true (sym h ∙ ap is_lt e))
    go Equal e = subst (λ k. is_lt (source_cmp k u) ≡ false) (sym (same_source s t e)) g
    go Greater e = refuted (is_lt (source_cmp s u))
        (λ l. absurd (false≢true (sym g
        ∙ ap is_lt (source_total.trans t s u (source_total.antisymm t s ∙ ap ordering_reverse e)
        (less_of (source_cmp s u) l)))))

before_asym : (always : Bool) (e f : Source × Standing) → before always e f ≡ true → before always f e ≡ false
before_asym always (s, Considered a) (t, Considered b) h = stands_asym always a b h
before_asym always (s, Considered a) (t, Excluded r) h = refl
before_asym always (s, Excluded q) (t, Considered b) h = absurd (false≢true h)
before_asym always (s, Excluded q) (t, Excluded r) h = source_lt_asym s t h

pub before_chain : (always : Bool) (e f g : Source × Standing) → before always e f ≡ false → before always f g ≡ false →
    before always e g ≡ false
before_chain always (s, Considered a) (t, Considered b) (u, Considered c) h k = stands_chain always a b c h k
before_chain always (s, Considered a) (t, Considered b) (u, Excluded r) h k = absurd (false≢true (sym k))
before_chain always (s, Considered a) (t, Excluded q) g h k = absurd (false≢true (sym h))
before_chain always (s, Excluded p) f (u, Considered c) h k = refl
before_chain always (s, Excluded p) (t, Considered b) (u, Excluded r) h k = absurd (false≢true (sym k))
before_chain always (s, Excluded p) (t, Excluded q) (u, Excluded r) h k = source_lt_chain s t u h k

-- the entry in its place among the others
abbrev pub put_in : Bool → Source × Standing → Entries → Entries
put_in always e [] = e ∷ []
put_in always e (x ∷ xs) = cond (before always e x) (e ∷ x ∷ xs) (x ∷ put_in always e xs)

pub insert_put_in : (always : Bool) (es : Entries) (e : Source × Standing) (i : ℕ) → IsSlot always es e i →
    insert es i e ≡ put_in always e es
insert_put_in always [] e zero is = refl
insert_put_in always [] e (suc i) is = absurd (omega (arith, is.in_range))
insert_put_in always (x ∷ xs) e zero is = let h : before always e x ≡ true = is.here (omega arith) in rw h refl
insert_put_in always (x ∷ xs) e (suc i) is =
    let first : before always e x ≡ false = is.after 0 (omega arith) in
    rw first (ap (λ r. x ∷ r)
    (insert_put_in always xs e i (record {
      in_range = omega (arith, is.in_range);
      after = λ j lt. is.after (suc j) (omega arith);
      here = λ lt. is.here (omega arith);
    })))

pub length_put_in : (always : Bool) (e : Source × Standing) (xs : Entries) → length (put_in always e xs) ≡ length xs + 1
length_put_in always e [] = refl
length_put_in always e (x ∷ xs) =
    let more = length_put_in always e xs in
    elim (before always e x) as (λ b. length (cond b (e ∷ x ∷ xs) (x ∷ put_in always e xs)) ≡ length (x ∷ xs)
    + 1) [ true ↦ omega arith | false ↦ omega arith ]

in_put_in : (always : Bool) (e : Source × Standing) (xs : Entries) (y : Source × Standing) →
    In y (put_in always e xs) → (e ≡ y) ⊎ In y xs
in_put_in always e [] y i = i
in_put_in always e (x ∷ xs) y i = elim (cases_of (before always e x)) [
  | inl t ↦ subst (λ b. In y (cond b (e ∷ x ∷ xs) (x ∷ put_in always e xs))) t i
  | inr f ↦ elim (subst (λ b. In y (cond b (e ∷ x ∷ xs) (x ∷ put_in always e xs))) f i) [
    | inl m ↦ inr (inl m)
    | inr j ↦ elim (in_put_in always e xs y j) [ inl m ↦ inl m | inr k ↦ inr (inr k) ]
  ]
]

pub ranked_put : (always : Bool) (e : Source × Standing) (es : Entries) → AreRanked always es →
    AreRanked always (put_in always e es)
ranked_put always e [] r = ((λ f i. absurd i), tt)
ranked_put always e (x ∷ xs) r = elim (cases_of (before always e x)) [
  | inl t ↦
      let behind = before_asym always e x t in
      rw t (
        (λ y i. elim i [
          | inl m ↦ subst (λ z. before always z e ≡ false) m behind
          | inr j ↦ before_chain always y x e (r.0 y j) behind
        ]),
        r,
      )
  | inr f ↦ rw f (
    (λ y i. elim (in_put_in always e xs y i) [
      | inl m ↦ subst (λ z. before always z x ≡ false) m f
      | inr j ↦ r.0 y j
    ]),
    ranked_put always e xs r.1,
  )
]

ranked_filter : (always : Bool) (p : Source × Standing → Bool) (es : Entries) → AreRanked always es →
    AreRanked always (filter p es)
ranked_filter always p [] r = tt
ranked_filter always p (x ∷ xs) r = elim (p x) as (λ b. AreRanked always (cond b (x ∷ filter p xs) (filter p xs))) [
  | true ↦ ((λ y i. r.0 y (in_filter p xs y i).0), ranked_filter always p xs r.1)
  | false ↦ ranked_filter always p xs r.1
]

pub ranked_without : (always : Bool) (s : Source) (es : Entries) → AreRanked always es → AreRanked always (without s es)
ranked_without always s es r = ranked_filter always (λ e. not (eq_by_cmp source_cmp s e.0)) es r

pub each_without : (s : Source) (es : Entries) → EachIsFrom es → EachIsFrom (without s es)
each_without s es each = each_other (λ e. not (eq_by_cmp source_cmp s e.0)) es each

pub each_put_in : (always : Bool) (e : Source × Standing) (es : Entries) → IsFrom e.0 e.1 → EachIsFrom es →
    EachIsFrom (put_in always e es)
each_put_in always e [] f each = (f, tt)
each_put_in always e (x ∷ xs) f each =
    elim (before always e x) as (λ b. EachIsFrom (cond b (e ∷ x ∷ xs) (x ∷ put_in always e xs))) [
      | true ↦
          (f, each)
      | false ↦ (each.0, each_put_in always e xs f each.1)
    ]
