-- Entries in order of their sources, as the map that they make.
use Rattle.std.proofs.Common.{◌≡◌, ℕ, zero, suc, ◌<◌, Bool, true, false, not, cond, T, List, [], ◌∷◌, length, set, get_or, Option, Some, None, refl, sym, ap, subst, ◌∙◌, inl, inr, arith}
use Rattle.std.proofs.lemmas.Bool.{false≢true}
use Rattle.std.proofs.lemmas.List.{get_or_read, get_or_default}
use Rattle.std.specs.List.{insert, filter}
use Rattle.std.specs.declared.cmp.Ordering.{Ordering}
use Rattle.std.specs.declared.cmp.Ordering.TheVariants.{Less, Equal, Greater}
use Rattle.std.specs.Ordering.{is_eq, is_lt, is_ne, ordering_reverse, eq_by_cmp}
use Rattle.std.specs.Cmp.{IsTotalOrder, nat_cmp_total, tied_itself, ranked, eq_by_cmp_equiv}
use Rattle.std.specs.FinMap as map
use Rattle.std.specs.FinMap.Entries.{put, find, below_all, is_sorted, is_sorted-put, where_key, is_sorted-where_key, find-where_key}
use Rattle.route_select.specs.declared.candidate.Source.{Source}
use Rattle.route_select.specs.declared.candidate.Source.TheVariants.{Own, Peer as FromPeer}
use Rattle.route_select.specs.declared.candidate.Candidate.{Candidate}
use Rattle.route_select.specs.declared.candidate.Reason.TheVariants.{Loop}
use Rattle.route_select.specs.declared.candidate.Standing.{Standing}
use Rattle.route_select.specs.declared.candidate.Standing.TheVariants.{Excluded, Considered}
use Rattle.route_select.specs.Selection.{source_cmp, Standings, IsFrom, candidate_of, considered_in}
use Rattle.route_select.specs.Entries.{candidate_at, AreEntries, EachIsFrom, IsPosition, IsGap, key_at, standing_at}
use Rattle.route_select.specs.Leaders.{In, HaveOwnSources}
use Rattle.route_select.proofs.Ranks.{both_true}

abbrev pub Entries : Type 0
Entries = List (Source × Standing)

T_of : (b : Bool) → b ≡ true → T b
T_of b e = subst T (sym e) tt

pub of_T : (b : Bool) → T b → b ≡ true
of_T true t = refl
of_T false t = absurd t

-- sources that compare alike are one
pub same_source : (a b : Source) → source_cmp a b ≡ Equal → a ≡ b
same_source Own Own e = refl
same_source Own (FromPeer b) e = cc
same_source (FromPeer a) Own e = cc
same_source (FromPeer a) (FromPeer b) e = ap (λ n. FromPeer (record { 0 = n })) (let k : a.0 ≡ b.0 =
    ranked a.0 b.0 Equal (sym e) in k)

source_antisymm : (a b : Source) → source_cmp a b ≡ ordering_reverse (source_cmp b a)
source_antisymm Own Own = refl
source_antisymm Own (FromPeer b) = refl
source_antisymm (FromPeer a) Own = refl
source_antisymm (FromPeer a) (FromPeer b) = nat_cmp_total.antisymm a.0 b.0

source_trans : (a b c : Source) → source_cmp a b ≡ Less → source_cmp b c ≡ Less → source_cmp a c ≡ Less
source_trans Own Own c e f = cc
source_trans Own (FromPeer b) Own e f = cc
source_trans Own (FromPeer b) (FromPeer c) e f = refl
source_trans (FromPeer a) Own c e f = cc
source_trans (FromPeer a) (FromPeer b) Own e f = cc
source_trans (FromPeer a) (FromPeer b) (FromPeer c) e f = nat_cmp_total.trans a.0 b.0 c.0 e f

pub source_total : IsTotalOrder source_cmp
source_total = record {
  antisymm = source_antisymm;
  trans = source_trans;
  congr = λ a b c e. ap (λ s. source_cmp s c) (same_source a b e);
}

-- the map that these entries make
abbrev pub map_of : Entries → map.FinMap source_cmp Standing
map_of es = map.from_sorted es

-- what is known, by how MULTI_EXIT_DISC is compared
abbrev pub compared : Bool → map.FinMap source_cmp Standing → Standings
compared always known = record { known = known; med_always = always }

pub entries_of : (es : Entries) → AreEntries es → map.entries (map_of es) ≡ es
entries_of es are = map.entries-from_sorted source_cmp es (T_of _ are.in_order)

-- entries put in their places make the map with the entry put in
pub put_of : (es : Entries) (s : Source) (v : Standing) → AreEntries es →
    map_of (put source_cmp s v es) ≡ map.insert (map_of es) s v
put_of es s v are =
    let sorted = is_sorted-put source_cmp source_total s v es (T_of _ are.in_order) in
    map.same_entries_map _ _ (map.entries-from_sorted source_cmp _ sorted
    ∙ ap (put source_cmp s v) (sym (entries_of es are)) ∙ sym (map.entries-insert source_total (map_of es) s v))

each_put_by : (o : Ordering) (e : Source × Standing) (es : Entries) (s : Source) (v : Standing) → source_cmp s e.0 ≡ o →
    IsFrom s v → EachIsFrom (e ∷ es) → EachIsFrom (put source_cmp s v es) → EachIsFrom (put source_cmp s v (e ∷ es))
each_put_by Less e es s v p f each more = rw p (f, each)
each_put_by Equal e es s v p f each more = rw p (subst (λ k. IsFrom k v) (same_source s e.0 p) f, each.1)
each_put_by Greater e es s v p f each more = rw p (each.0, more)

each_put : (es : Entries) (s : Source) (v : Standing) → IsFrom s v → EachIsFrom es → EachIsFrom (put source_cmp s v es)
each_put [] s v f each = (f, tt)
each_put (e ∷ es) s v f each = each_put_by (source_cmp s e.0) e es s v refl f each (each_put es s v f each.1)

pub are_put : (es : Entries) (s : Source) (v : Standing) → IsFrom s v → AreEntries es →
    AreEntries (put source_cmp s v es)
are_put es s v f are = record {
  in_order = of_T _ (is_sorted-put source_cmp source_total s v es (T_of _ are.in_order));
  own = each_put es s v f are.own;
}

-- writing over the entry of a source puts the new one in its place
pub put_set : (es : Entries) (s : Source) (v : Standing) (i : ℕ) → IsPosition es s i →
    set es i (s, v) ≡ put source_cmp s v es
put_set [] s v i is = absurd (omega (arith, is.in_range))
put_set (e ∷ es) s v zero is = rw is.here (ap (λ k. (k, v) ∷ es) (same_source s e.0 is.here))
put_set (e ∷ es) s v (suc i) is =
    let first : source_cmp s e.0 ≡ Greater = is.after 0 (omega arith) in
    rw first (ap (λ r. e ∷ r)
    (put_set es s v i (record {
      in_range = omega (arith, is.in_range);
      after = λ j lt. is.after (suc j) (omega arith);
      here = is.here;
    })))

-- so does inserting at the gap
pub put_insert : (es : Entries) (s : Source) (v : Standing) (i : ℕ) → IsGap es s i →
    insert es i (s, v) ≡ put source_cmp s v es
put_insert [] s v zero is = refl
put_insert [] s v (suc i) is = absurd (omega (arith, is.in_range))
put_insert (e ∷ es) s v zero is = let h : source_cmp s e.0 ≡ Less = is.before (omega arith) in rw h refl
put_insert (e ∷ es) s v (suc i) is =
    let first : source_cmp s e.0 ≡ Greater = is.after 0 (omega arith) in
    rw first (ap (λ r. e ∷ r)
    (put_insert es s v i (record {
      in_range = omega (arith, is.in_range);
      after = λ j lt. is.after (suc j) (omega arith);
      before = λ lt. is.before (omega arith);
    })))

-- the entries of the other sources
abbrev pub others : Source → Entries → Entries
others s es = where_key source_cmp (λ k. not (eq_by_cmp source_cmp s k)) es

pub each_other : (p : Source × Standing → Bool) (es : Entries) → EachIsFrom es → EachIsFrom (filter p es)
each_other p [] each = tt
each_other p (e ∷ es) each = elim (p e) as (λ b. EachIsFrom (cond b (e ∷ filter p es) (filter p es))) [
  | true ↦
      (each.0, each_other p es each.1)
  | false ↦ each_other p es each.1
]

pub are_others : (es : Entries) (s : Source) → AreEntries es → AreEntries (others s es)
are_others es s are = record {
  in_order = of_T _ (is_sorted-where_key source_cmp (λ k. not (eq_by_cmp source_cmp s k)) es (T_of _ are.in_order));
  own = each_other (λ e. not (eq_by_cmp source_cmp s e.0)) es are.own;
}

pub flipped : {A : Type 0} (b : Bool) (x y : A) → cond (not b) x y ≡ cond b y x
flipped true x y = refl
flipped false x y = refl

pub others_of : (es : Entries) (s : Source) → AreEntries es → map_of (others s es) ≡ map.remove (map_of es) s
others_of es s are = map.same_map source_total same_source _ _ (λ q.
    map.get-from_sorted source_cmp (others s es) q (T_of _ (are_others es s are).in_order)
    ∙ find-where_key source_cmp (λ k. not (eq_by_cmp source_cmp s k)) q
    (λ x e. ap (λ k. not (eq_by_cmp source_cmp s k)) (sym (same_source q x e))) es
    ∙ flipped (eq_by_cmp source_cmp s q) _ _
    ∙ ap (λ b. cond b None (find source_cmp q es)) ((eq_by_cmp_equiv source_total).symm s q)
    ∙ ap (λ o. cond (eq_by_cmp source_cmp q s) None o) (sym (map.get-from_sorted source_cmp es q (T_of _ are.in_order)))
    ∙ sym (map.get-remove source_total (map_of es) s q))

-- what the map has at a source
pub find_position : (es : Entries) (s : Source) (i : ℕ) → IsPosition es s i →
    find source_cmp s es ≡ Some (standing_at es i)
find_position [] s i is = absurd (omega (arith, is.in_range))
find_position (e ∷ es) s zero is = rw is.here refl
find_position (e ∷ es) s (suc i) is =
    let first : source_cmp s e.0 ≡ Greater = is.after 0 (omega arith) in
    rw first (find_position es s i (record {
      in_range = omega (arith, is.in_range);
      after = λ j lt. is.after (suc j) (omega arith);
      here = is.here;
    }))

pub less_of : (o : Ordering) → is_lt o ≡ true → o ≡ Less
less_of Less e = refl
less_of Equal e = absurd (false≢true e)
less_of Greater e = absurd (false≢true e)

-- a source before all entries has none
find_below : (q : Source) (es : Entries) → below_all source_cmp q es ≡ true → find source_cmp q es ≡ None
find_below q [] h = refl
find_below q (e ∷ es) h =
    let w = both_true (is_lt (source_cmp q e.0)) (below_all source_cmp q es) h in
    rw (less_of (source_cmp q e.0) w.0) (find_below q es w.1)

below_less : (x y : Source) (es : Entries) → source_cmp x y ≡ Less → below_all source_cmp y es ≡ true →
    below_all source_cmp x es ≡ true
below_less x y [] p h = refl
below_less x y (e ∷ es) p h =
    let w = both_true (is_lt (source_cmp y e.0)) (below_all source_cmp y es) h in
    rw (source_trans x y e.0 p (less_of (source_cmp y e.0) w.0)) (below_less x y es p w.1)

-- a source that has a gap has no entry
pub find_gap : (es : Entries) (s : Source) (i : ℕ) → is_sorted source_cmp es ≡ true → IsGap es s i →
    find source_cmp s es ≡ None
find_gap [] s i sorted is = refl
find_gap (e ∷ es) s zero sorted is =
    let h : source_cmp s e.0 ≡ Less = is.before (omega arith) in
    let w = both_true (below_all source_cmp e.0 es) (is_sorted source_cmp es) sorted in
    rw h (find_below s es (below_less s e.0 es h w.0))
find_gap (e ∷ es) s (suc i) sorted is =
    let first : source_cmp s e.0 ≡ Greater = is.after 0 (omega arith) in
    let w = both_true (below_all source_cmp e.0 es) (is_sorted source_cmp es) sorted in
    rw first (find_gap es s i w.1 (record {
      in_range = omega (arith, is.in_range);
      after = λ j lt. is.after (suc j) (omega arith);
      before = λ lt. is.before (omega arith);
    }))

pub tied : (s : Source) → source_cmp s s ≡ Equal
tied Own = refl
tied (FromPeer a) = tied_itself nat_cmp_total a.0

later_by : (o : Ordering) (es : Entries) (q : Source) (w : Standing) (s : Source) (v : Standing) → source_cmp q s ≡ o →
    below_all source_cmp s es ≡ true → find source_cmp q es ≡ Some w → find source_cmp q ((s, v) ∷ es) ≡ Some w
later_by Less es q w s v p below is = rw p is
later_by Greater es q w s v p below is = rw p is
later_by Equal es q w s v p below is =
    let gone = find_below q es (subst (λ k. below_all source_cmp k es ≡ true) (sym (same_source q s p)) below) in
    absurd (cc (gone, is))

-- what is found after the first entry is found with it too
later : (es : Entries) (q : Source) (w : Standing) (s : Source) (v : Standing) → below_all source_cmp s es ≡ true →
    find source_cmp q es ≡ Some w → find source_cmp q ((s, v) ∷ es) ≡ Some w
later es q w s v below is = later_by (source_cmp q s) es q w s v refl below is

-- what is considered is what its source has
pub find_considered : (es : Entries) (n : Candidate) → is_sorted source_cmp es ≡ true → EachIsFrom es →
    In n (considered_in es) → find source_cmp n.source es ≡ Some (Considered n)
find_considered [] n sorted each i = absurd i
find_considered ((s, Excluded r) ∷ es) n sorted each i =
    let w = both_true (below_all source_cmp s es) (is_sorted source_cmp es) sorted in
    later es n.source (Considered n) s (Excluded r) w.0 (find_considered es n w.1 each.1 i)
find_considered ((s, Considered c) ∷ es) n sorted each (inl e) =
    let h : source_cmp n.source s ≡ Equal =
    subst (λ k. source_cmp n.source k ≡ Equal) (ap (λ (x : Candidate). x.source) (sym e)
    ∙ each.0) (tied n.source) in
    rw h (ap (λ x. Some (Considered x)) e)
find_considered ((s, Considered c) ∷ es) n sorted each (inr i) =
    let w = both_true (below_all source_cmp s es) (is_sorted source_cmp es) sorted in
    later es n.source (Considered n) s (Considered c) w.0 (find_considered es n w.1 each.1 i)

-- where each source's standing is its own, the entries are
pub each_from : (es : Entries) → is_sorted source_cmp es ≡ true →
    ((q : Source) (w : Standing) → find source_cmp q es ≡ Some w → IsFrom q w) → EachIsFrom es
each_from [] sorted f = tt
each_from ((s, v) ∷ es) sorted f =
    let w = both_true (below_all source_cmp s es) (is_sorted source_cmp es) sorted in
    (f s v (rw (tied s) refl), each_from es w.1 (λ q x is. f q x (later es q x s v w.0 is)))

-- no two of the list have one source
abbrev pub AreApart : List Candidate → Type 0
AreApart [] = Unit {0}
AreApart (m ∷ ms) = ((n : Candidate) → In n ms → m.source ≡ n.source → ⊥) × AreApart ms

pub considered_apart : (es : Entries) → is_sorted source_cmp es ≡ true → EachIsFrom es → AreApart (considered_in es)
considered_apart [] sorted each = tt
considered_apart ((s, Excluded r) ∷ es) sorted each =
    let w = both_true (below_all source_cmp s es) (is_sorted source_cmp es) sorted in
    considered_apart es w.1 each.1
considered_apart ((s, Considered c) ∷ es) sorted each =
    let w = both_true (below_all source_cmp s es) (is_sorted source_cmp es) sorted in (
      λ n i e.
          let is = find_considered es n w.1 each.1 i in
          let gone : find source_cmp n.source es ≡ None =
          find_below n.source es (subst (λ k. below_all source_cmp k es ≡ true) (sym each.0 ∙ e) w.0) in
          absurd (cc (gone, is)),
      considered_apart es w.1 each.1,
    )

-- no source comes twice
pub own_sources : (es : Entries) → AreEntries es → HaveOwnSources (considered_in es)
own_sources es are a b i j e =
    let p = find_considered es a are.in_order are.own i in
    let q = find_considered es b are.in_order are.own j in
    let r : find source_cmp a.source es ≡ Some (Considered b) =
    subst (λ s. find source_cmp s es ≡ Some (Considered b)) (sym e) q in
    cc (p, r)

-- an entry as it was read
pub read_at : (es : Entries) (i : ℕ) (e : Source × Standing) → i < length es → e ≡ get_or es i e →
    e.1 ≡ standing_at es i
read_at es i e lt is = ap (λ (x : Source × Standing). x.1) (get_or_read es i e lt is (Own, Excluded Loop))

-- the same, whatever is read where there is no entry
pub read_from : (es : Entries) (i : ℕ) (e : Source × Standing) → i < length es → (get_or es i e).1 ≡ standing_at es i
read_from es i e lt = ap (λ (x : Source × Standing). x.1) (get_or_default es i e (Own, Excluded Loop) lt)

-- an entry is its source's own
pub each_at : (es : Entries) (i : ℕ) → i < length es → EachIsFrom es → IsFrom (key_at es i) (standing_at es i)
each_at [] i lt each = absurd (omega arith)
each_at (e ∷ es) zero lt each = each.0
each_at (e ∷ es) (suc i) lt each = each_at es i (omega arith) each.1

-- what is considered, by its position
pub considered_at : (es : Entries) (k : ℕ) (n : Candidate) → k < length es → candidate_at es k ≡ Some n →
    In n (considered_in es)
considered_at [] k n lt e = absurd (omega arith)
considered_at ((s, Excluded r) ∷ es) zero n lt e = let e' : None ≡ Some n = e in absurd (cc)
considered_at ((s, Considered c) ∷ es) zero n lt e = let e' : Some c ≡ Some n = e in inl (cc)
considered_at ((s, Excluded r) ∷ es) (suc k) n lt e = considered_at es k n (omega arith) e
considered_at ((s, Considered c) ∷ es) (suc k) n lt e = inr (considered_at es k n (omega arith) e)

-- a route that was read and is considered
pub stands_at : (es : Entries) (i : ℕ) (e : Source × Standing) (n : Candidate) → i < length es →
    (get_or es i e).1 ≡ Considered n → standing_at es i ≡ Considered n
stands_at es i e n lt at = sym (read_from es i e lt) ∙ at

pub stands_in : (es : Entries) (i : ℕ) (e : Source × Standing) (n : Candidate) → i < length es →
    (get_or es i e).1 ≡ Considered n → In n (considered_in es)
stands_in es i e n lt at = considered_at es i n lt (ap candidate_of (stands_at es i e n lt at))

pub position_of : (es : Entries) (n : Candidate) → In n (considered_in es) → (k : ℕ) × (k < length es)
    × (candidate_at es k ≡ Some n)
position_of [] n i = absurd i
position_of ((s, Excluded r) ∷ es) n i = let p = position_of es n i in (suc p.0, omega arith, p.2)
position_of ((s, Considered c) ∷ es) n (inl e) = (0, omega arith, ap Some e)
position_of ((s, Considered c) ∷ es) n (inr i) = let p = position_of es n i in (suc p.0, omega arith, p.2)

-- one route stands there
pub one_there : (o : Option Candidate) (n c : Candidate) → o ≡ Some n → o ≡ Some c → n ≡ c
one_there o n c e at = let m : Some n ≡ Some c = sym e ∙ at in cc

-- no entries make the empty map
pub map_of_none : map_of [] ≡ map.empty
map_of_none = map.same_map source_total same_source _ _ (λ q. map.get-from_sorted source_cmp [] q tt
    ∙ sym (map.get-empty source_cmp q))

-- the map's standing of a source is what its entry has
pub get_of : (es : Entries) (s : Source) → AreEntries es → map.get (map_of es) s ≡ find source_cmp s es
get_of es s are = map.get-from_sorted source_cmp es s (T_of _ are.in_order)

-- the two tests of a comparison
pub is_ne_not : (o : Ordering) → is_ne o ≡ not (is_eq o)
is_ne_not Less = refl
is_ne_not Equal = refl
is_ne_not Greater = refl
