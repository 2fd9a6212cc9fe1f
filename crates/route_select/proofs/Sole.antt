-- Each filter leaves a route, and the nine leave one.
use Rattle.std.proofs.Common.{◌≡◌, Bool, true, false, cond, slice_get, Some, None, List, [], ◌∷◌, filter, refl, sym, ap, subst, ◌∙◌, inl, inr, arith}
use Rattle.std.proofs.lemmas.Bool.{false≢true}
use Rattle.std.specs.FinMap as map
use Rattle.route_select.specs.declared.candidate.Candidate.{Candidate}
use Rattle.route_select.specs.declared.filter.Filter.{Filter}
use Rattle.route_select.specs.declared.filter.Filter.TheVariants.{Pref, Length, Origin, Med, External, Cost, Ident, Clusters, Peer}
use Rattle.route_select.specs.Selection.{beats, considered, filters, left_by, left_by_all, best_among}
use Rattle.route_select.specs.Laws.{OneIsLeft, NoneIsLeft, EachIsApplied}
use Rattle.route_select.specs.Leaders.{In}
use Rattle.route_select.proofs.Ranks.{weak, weak_within, plain_or_med, med_same, same_sym, beats_asym, peer_tie}
use Rattle.route_select.proofs.Filtering.{before_peer, cases_of, refuted, in_filter, from_left, left_unbeaten, unbeaten_left}
use Rattle.route_select.proofs.EntryLemmas.{of_T, AreApart, considered_apart, each_from}

-- what beats one that beats m beats m
beats_trans : (always : Bool) (k : Filter) (p n m : Candidate) → beats always k p n ≡ true → beats always k n m ≡ true →
    beats always k p m ≡ true
beats_trans always k p n m h g = elim (cases_of (beats always k p m)) [
  | inl t ↦ t
  | inr f ↦
      let back : beats always k m n ≡ true = elim (plain_or_med k) [
        | inl plain ↦ weak always k plain p m n h f
        | inr e ↦ weak_within always k p m n (same_sym always m n
            ∙ med_same always n m (subst (λ q. beats always q n m ≡ true) e g)) h f
      ] in
      absurd (false≢true (sym (beats_asym always k n m g) ∙ back))
]

not_itself : (always : Bool) (k : Filter) (m : Candidate) → beats always k m m ≡ false
not_itself always k m = refuted (beats always k m m) (λ t. beats_asym always k m m t)

-- one of the routes that none of them beats
abbrev Unbeaten : Bool → Filter → List Candidate → Type 0
Unbeaten always k ms = (b : Candidate) × In b ms × ((n : Candidate) → In n ms → beats always k n b ≡ false)

unbeaten : (always : Bool) (k : Filter) (m : Candidate) (ms : List Candidate) → Unbeaten always k (m ∷ ms)
unbeaten always k m [] = (
  m,
  inl refl,
  λ n i. elim i [
    | inl e ↦ subst (λ q. beats always k q m ≡ false) e (not_itself always k m)
    | inr none ↦
        absurd none
  ],
)
unbeaten always k m (x ∷ xs) =
    let r = unbeaten always k x xs in
    elim (cases_of (beats always k m r.0)) [
      | inl t ↦ (
        m,
        inl refl,
        λ n i. elim i [
          | inl e ↦ subst (λ q. beats always k q m ≡ false) e (not_itself always k m)
          | inr j ↦ refuted (beats always k n m)
              (λ u. absurd (false≢true (sym (r.2 n j) ∙ beats_trans always k n m r.0 u t)))
        ],
      )
      | inr f ↦ (
        r.0,
        inr r.1,
        λ n i. elim i [ inl e ↦ subst (λ q. beats always k q r.0 ≡ false) e f | inr j ↦ r.2 n j ],
      )
    ]

-- so each filter leaves one of some routes, and so do all
one_left : (always : Bool) (k : Filter) (ms : List Candidate) (m : Candidate) → In m ms → (b : Candidate)
    × In b (left_by always k ms)
one_left always k [] m i = absurd i
one_left always k (x ∷ xs) m i = let r = unbeaten always k x xs in (r.0, unbeaten_left always k (x ∷ xs) r.0 r.1 r.2)

some_left : (always : Bool) (ks : List Filter) (ms : List Candidate) (m : Candidate) → In m ms → (b : Candidate)
    × In b (left_by_all always ks ms)
some_left always [] ms m i = (m, i)
some_left always (k ∷ ks) ms m i = let r = one_left always k ms m i in some_left always ks (left_by always k ms) r.0 r.1

none_is_none : (always : Bool) (ms : List Candidate) → best_among always ms ≡ None → ms ≡ []
unfolding best_among
none_is_none always [] none = refl
none_is_none always (m ∷ ms) none = let r = some_left always filters (m ∷ ms) m (inl refl) in
    first_none (left_by_all always filters (m ∷ ms)) none r.0 r.1
  where
    first_none : (xs : List Candidate) → slice_get xs 0 ≡ None → (b : Candidate) → In b xs → m ∷ ms ≡ []
    first_none [] e b i = absurd i
    first_none (x ∷ xs) e b i = let e' : Some x ≡ None = e in absurd (cc)

none_of_none : (always : Bool) (ms : List Candidate) → ms ≡ [] → best_among always ms ≡ None
unfolding best_among
none_of_none always ms e = ap (best_among always) e

pub none_is_left : NoneIsLeft
none_is_left standings = (
  none_is_none standings.med_always (considered standings),
  none_of_none standings.med_always (considered standings),
)

-- what is left of routes of different sources is of different sources
apart_filter : (p : Candidate → Bool) (ms : List Candidate) → AreApart ms → AreApart (filter p ms)
apart_filter p [] a = tt
apart_filter p (m ∷ ms) a = elim (p m) as (λ b. AreApart (cond b (m ∷ filter p ms) (filter p ms))) [
  | true ↦ (λ n i e. a.0 n (in_filter p ms n i).0 e, apart_filter p ms a.1)
  | false ↦ apart_filter p ms a.1
]

apart_left : (always : Bool) (ks : List Filter) (ms : List Candidate) → AreApart ms →
    AreApart (left_by_all always ks ms)
apart_left always [] ms a = a
apart_left always (k ∷ ks) ms a = apart_left always ks (left_by always k ms) (apart_filter _ ms a)

-- a list of different sources, all of one source, whose first is b
only : (xs : List Candidate) (b : Candidate) → AreApart xs →
    ((m n : Candidate) → In m xs → In n xs → m.source ≡ n.source) → slice_get xs 0 ≡ Some b → xs ≡ b ∷ []
only [] b a tie first = let e : None ≡ Some b = first in absurd (cc)
only (x ∷ []) b a tie first = let e : Some x ≡ Some b = first in let e' : x ≡ b = cc in ap (λ y. y ∷ []) e'
only (x ∷ y ∷ ys) b a tie first = absurd (a.0 y (inl refl) (tie x y (inl refl) (inr (inl refl))))

only_best : (always : Bool) (ms : List Candidate) (b : Candidate) → AreApart ms → best_among always ms ≡ Some b →
    left_by_all always filters ms ≡ b ∷ []
unfolding best_among
only_best always ms b a best =
    let ws = left_by_all always (before_peer filters) ms in
    only (left_by_all always filters ms) b (apart_left always filters ms a) (λ m n i j.
    peer_tie always m n (left_unbeaten always Peer ws n m j (from_left always Peer ws m i))
    (left_unbeaten always Peer ws m n i (from_left always Peer ws n j))) best

pub one_is_left : OneIsLeft
one_is_left standings own b best =
    let es = map.entries standings.known in
    let sorted = of_T _ (map.entries_sorted standings.known) in
    only_best standings.med_always (considered standings) b
    (considered_apart es sorted (each_from es sorted (λ q w is. own q w (map.get-entries standings.known q ∙ is))))
    best

pub each_is_applied : EachIsApplied
each_is_applied Pref = (0, omega arith, refl)
each_is_applied Length = (1, omega arith, refl)
each_is_applied Origin = (2, omega arith, refl)
each_is_applied Med = (3, omega arith, refl)
each_is_applied External = (4, omega arith, refl)
each_is_applied Cost = (5, omega arith, refl)
each_is_applied Ident = (6, omega arith, refl)
each_is_applied Clusters = (7, omega arith, refl)
each_is_applied Peer = (8, omega arith, refl)
