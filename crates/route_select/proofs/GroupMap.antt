-- Entries in groups as the map that they make: each source once, one put in, one taken out, and what is considered.
use Rattle.std.proofs.Common.{◌≡◌, ℕ, zero, suc, ◌<◌, ◌≤◌, Bool, true, false, not, cond, List, [], ◌∷◌, length, Option, Some, None, refl, sym, ap, subst, ◌∙◌, inl, inr, arith}
use Rattle.std.proofs.lemmas.Bool.{false≢true}
use Rattle.std.specs.List.{remove}
use Rattle.std.specs.declared.cmp.Ordering.{Ordering}
use Rattle.std.specs.declared.cmp.Ordering.TheVariants.{Less, Equal, Greater}
use Rattle.std.specs.Ordering.{is_eq, eq_by_cmp}
use Rattle.std.specs.Cmp.{eq_by_cmp_equiv}
use Rattle.std.specs.FinMap as map
use Rattle.std.specs.FinMap.Entries.{find, find-where_key}
use Rattle.route_select.specs.declared.candidate.Source.{Source}
use Rattle.route_select.specs.declared.candidate.Candidate.{Candidate}
use Rattle.route_select.specs.declared.candidate.Standing.{Standing}
use Rattle.route_select.specs.declared.candidate.Standing.TheVariants.{Excluded, Considered}
use Rattle.route_select.specs.Selection.{source_cmp, considered_in, best_among}
use Rattle.route_select.specs.Entries.{AreEntries, EachIsFrom, key_at}
use Rattle.route_select.specs.Leaders.{In, HaveOwnSources, Leads}
use Rattle.route_select.specs.Groups.{before, AreDistinct, without, IsBest, SameMembers, known_of}
use Rattle.route_select.proofs.Filtering.{cases_of, refuted}
use Rattle.route_select.proofs.Leading.{least_leader_left, only_one_left, best_of_none}
use Rattle.route_select.proofs.Scan.{nothing_in}
use Rattle.route_select.proofs.EntryLemmas.{Entries, tied, flipped, same_source, source_total, are_put, map_of_none, find_considered, own_sources}
use Rattle.route_select.proofs.GroupOrder.{put_in}

equal_of : (o : Ordering) → is_eq o ≡ true → o ≡ Equal
equal_of Less e = absurd (false≢true e)
equal_of Equal e = refl
equal_of Greater e = absurd (false≢true e)

same_key : (s t : Source) → eq_by_cmp source_cmp s t ≡ true → s ≡ t
same_key s t e = same_source s t (equal_of (source_cmp s t) e)

itself : (s : Source) → eq_by_cmp source_cmp s s ≡ true
itself s = ap is_eq (tied s)

turned : (s t : Source) → eq_by_cmp source_cmp s t ≡ eq_by_cmp source_cmp t s
turned s t = (eq_by_cmp_equiv source_total).symm s t

head_missed : (b : Bool) (v : Standing) (o : Option Standing) → cond b (Some v) o ≡ None → (b ≡ false) × (o ≡ None)
head_missed true v o h = absurd (cc)
head_missed false v o h = (refl, h)

swapped : (a b : Bool) (x y z : Option Standing) → (a ≡ true → b ≡ true → ⊥) →
    cond a x (cond b y z) ≡ cond b y (cond a x z)
swapped true true x y z apart = absurd (apart refl refl)
swapped true false x y z apart = refl
swapped false b x y z apart = refl

pub shadowed : (b : Bool) (x y z : Option Standing) → cond b x (cond b y z) ≡ cond b x z
shadowed true x y z = refl
shadowed false x y z = refl

both_none : (b : Bool) (o : Option Standing) → o ≡ None → cond b None o ≡ None
both_none true o e = refl
both_none false o e = e

find_put_in : (always : Bool) (e : Source × Standing) (es : Entries) (q : Source) → find source_cmp e.0 es ≡ None →
    find source_cmp q (put_in always e es) ≡ cond (eq_by_cmp source_cmp q e.0) (Some e.1) (find source_cmp q es)
find_put_in always e [] q none = refl
find_put_in always e (x ∷ xs) q none =
    let m = head_missed (eq_by_cmp source_cmp e.0 x.0) x.1 (find source_cmp e.0 xs) none in
    elim (before always e x) as (λ b. find source_cmp q (cond b (e ∷ x ∷ xs) (x ∷ put_in always e xs))
    ≡ cond (eq_by_cmp source_cmp q e.0) (Some e.1) (find source_cmp q (x ∷ xs))) [
      | true ↦ refl
      | false ↦ ap (cond (eq_by_cmp source_cmp q x.0) (Some x.1)) (find_put_in always e xs q m.1)
          ∙ swapped (eq_by_cmp source_cmp q x.0) (eq_by_cmp source_cmp q e.0) (Some x.1) (Some e.1)
          (find source_cmp q xs) (λ a b. false≢true (sym m.0
          ∙ subst (λ k. eq_by_cmp source_cmp k x.0 ≡ true) (same_key q e.0 b) a))
    ]

pub distinct_put : (always : Bool) (e : Source × Standing) (es : Entries) → find source_cmp e.0 es ≡ None →
    AreDistinct es → AreDistinct (put_in always e es)
distinct_put always e [] none d = (refl, tt)
distinct_put always e (x ∷ xs) none d =
    let m = head_missed (eq_by_cmp source_cmp e.0 x.0) x.1 (find source_cmp e.0 xs) none in
    elim (before always e x) as (λ b. AreDistinct (cond b (e ∷ x ∷ xs) (x ∷ put_in always e xs))) [
      | true ↦ (none, d)
      | false ↦ (
        find_put_in always e xs x.0 m.1 ∙ ap (λ b. cond b (Some e.1) (find source_cmp x.0 xs)) (turned x.0 e.0
            ∙ m.0) ∙ d.0,
        distinct_put always e xs m.1 d.1,
      )
    ]

find_without : (s : Source) (es : Entries) (q : Source) →
    find source_cmp q (without s es) ≡ cond (eq_by_cmp source_cmp s q) None (find source_cmp q es)
find_without s es q =
    find-where_key source_cmp (λ k. not (eq_by_cmp source_cmp s k)) q
    (λ x e. ap (λ k. not (eq_by_cmp source_cmp s k)) (sym (same_source q x e))) es
    ∙ flipped (eq_by_cmp source_cmp s q) _ _

pub gone : (s : Source) (es : Entries) → find source_cmp s (without s es) ≡ None
gone s es = find_without s es s ∙ ap (λ b. cond b None (find source_cmp s es)) (itself s)

pub distinct_without : (s : Source) (es : Entries) → AreDistinct es → AreDistinct (without s es)
distinct_without s [] d = tt
distinct_without s (x ∷ xs) d =
    elim (not (eq_by_cmp source_cmp s x.0)) as (λ b. AreDistinct (cond b (x ∷ without s xs) (without s xs))) [
      | true ↦ (find_without s xs x.0 ∙ both_none (eq_by_cmp source_cmp s x.0) _ d.0, distinct_without s xs d.1)
      | false ↦ distinct_without s xs d.1
    ]

pub length_without : (s : Source) (es : Entries) → length (without s es) ≤ length es
length_without s [] = omega arith
length_without s (x ∷ xs) =
    let less = length_without s xs in
    elim (not (eq_by_cmp source_cmp s x.0)) as (λ b. length (cond b (x ∷ without s xs) (without s xs))
    ≤ length (x ∷ xs)) [ true ↦ omega arith | false ↦ omega arith ]

pub without_absent : (s : Source) (es : Entries) → find source_cmp s es ≡ None → without s es ≡ es
without_absent s [] none = refl
without_absent s (x ∷ xs) none =
    let m = head_missed (eq_by_cmp source_cmp s x.0) x.1 (find source_cmp s xs) none in
    rw m.0 (ap (λ r. x ∷ r) (without_absent s xs m.1))

not_missed : (es : Entries) (s : Source) (i : ℕ) → i < length es → source_cmp s (key_at es i) ≡ Equal →
    find source_cmp s es ≡ None → ⊥
not_missed [] s i lt e none = omega arith
not_missed (x ∷ xs) s zero lt e none =
    let m = head_missed (eq_by_cmp source_cmp s x.0) x.1 (find source_cmp s xs) none in
    false≢true (sym m.0 ∙ ap is_eq e)
not_missed (x ∷ xs) s (suc i) lt e none =
    let m = head_missed (eq_by_cmp source_cmp s x.0) x.1 (find source_cmp s xs) none in
    not_missed xs s i (omega arith) e m.1

-- the entry of a source removed
pub remove_without : (es : Entries) (s : Source) (i : ℕ) → AreDistinct es → i < length es →
    source_cmp s (key_at es i) ≡ Equal → remove es i ≡ without s es
remove_without [] s i d lt e = absurd (omega arith)
remove_without (x ∷ xs) s zero d lt e =
    let t : eq_by_cmp source_cmp s x.0 ≡ true = ap is_eq e in
    rw t (sym (without_absent s xs (subst (λ k. find source_cmp k xs ≡ None) (sym (same_source s x.0 e)) d.0)))
remove_without (x ∷ xs) s (suc i) d lt e =
    let f : eq_by_cmp source_cmp s x.0 ≡ false =
    refuted (eq_by_cmp source_cmp s x.0)
    (λ t. absurd (not_missed xs s i (omega arith) e
    (subst (λ k. find source_cmp k xs ≡ None) (sym (same_key s x.0 t)) d.0))) in
    rw f (ap (λ r. x ∷ r) (remove_without xs s i d.1 (omega arith) e))

pub put_map : (always : Bool) (s : Source) (v : Standing) (es : Entries) →
    known_of (put_in always (s, v) (without s es)) ≡ map.insert (known_of es) s v
put_map always s v es = map.same_map source_total same_source _ _ (λ q.
    map.get-from_entries source_total (put_in always (s, v) (without s es)) q
    ∙ find_put_in always (s, v) (without s es) q (gone s es)
    ∙ ap (cond (eq_by_cmp source_cmp q s) (Some v)) (find_without s es q
    ∙ ap (λ b. cond b None (find source_cmp q es)) (turned s q))
    ∙ shadowed (eq_by_cmp source_cmp q s) (Some v) None (find source_cmp q es)
    ∙ sym (map.get-insert source_total (known_of es) s v q
    ∙ ap (cond (eq_by_cmp source_cmp q s) (Some v)) (map.get-from_entries source_total es q)))

pub drop_map : (s : Source) (es : Entries) → known_of (without s es) ≡ map.remove (known_of es) s
drop_map s es = map.same_map source_total same_source _ _ (λ q.
    map.get-from_entries source_total (without s es) q
    ∙ find_without s es q
    ∙ ap (λ b. cond b None (find source_cmp q es)) (turned s q)
    ∙ sym (map.get-remove source_total (known_of es) s q
    ∙ ap (cond (eq_by_cmp source_cmp q s) None) (map.get-from_entries source_total es q)))

pub absent_map : (s : Source) (es : Entries) → find source_cmp s es ≡ None → known_of es ≡ map.remove (known_of es) s
absent_map s es none = ap known_of (sym (without_absent s es none)) ∙ drop_map s es

pub get_from : (es : Entries) (s : Source) → map.get (known_of es) s ≡ find source_cmp s es
get_from es s = map.get-from_entries source_total es s

pub are_from : (es : Entries) → EachIsFrom es → AreEntries (map.entries (known_of es))
are_from [] each = subst AreEntries (sym (ap map.entries (sym map_of_none) ∙ map.entries-from_sorted source_cmp [] tt))
    (record { in_order = refl; own = tt })
are_from (e ∷ es) each = subst AreEntries (sym (map.entries-insert source_total (known_of es) e.0 e.1))
    (are_put (map.entries (known_of es)) e.0 e.1 each.0 (are_from es each.1))

found_in : (es : Entries) (q : Source) (n : Candidate) → find source_cmp q es ≡ Some (Considered n) →
    In n (considered_in es)
found_in [] q n h = absurd (cc)
found_in ((s, Excluded r) ∷ es) q n h = elim (cases_of (eq_by_cmp source_cmp q s)) [
  | inl t ↦ let k : Some (Excluded r) ≡ Some (Considered n) = rw t at h in absurd (cc)
  | inr f ↦ found_in es q n (rw f at h)
]
found_in ((s, Considered c) ∷ es) q n h = elim (cases_of (eq_by_cmp source_cmp q s)) [
  | inl t ↦ let k : Some (Considered c) ≡ Some (Considered n) = rw t at h in inl (cc)
  | inr f ↦ inr (found_in es q n (rw f at h))
]

behind : (s : Source) (v : Standing) (es : Entries) (q : Source) (w : Standing) → find source_cmp s es ≡ None →
    find source_cmp q es ≡ Some w → find source_cmp q ((s, v) ∷ es) ≡ Some w
behind s v es q w none is = elim (cases_of (eq_by_cmp source_cmp q s)) [
  | inl t ↦ let k : find source_cmp q es ≡ None =
      subst (λ z. find source_cmp z es ≡ None) (sym (same_key q s t)) none in absurd (cc)
  | inr f ↦ rw f is
]

considered_found : (es : Entries) (n : Candidate) → AreDistinct es → EachIsFrom es → In n (considered_in es) →
    find source_cmp n.source es ≡ Some (Considered n)
considered_found [] n d each i = absurd i
considered_found ((s, Excluded r) ∷ es) n d each i = behind s (Excluded r) es n.source (Considered n) d.0
    (considered_found es n d.1 each.1 i)
considered_found ((s, Considered c) ∷ es) n d each (inl e) =
    let t : eq_by_cmp source_cmp n.source s ≡ true = subst (λ k. eq_by_cmp source_cmp n.source k ≡ true)
    (ap (λ (x : Candidate). x.source) (sym e) ∙ each.0) (itself n.source) in
    rw t (ap (λ x. Some (Considered x)) e)
considered_found ((s, Considered c) ∷ es) n d each (inr i) = behind s (Considered c) es n.source (Considered n) d.0
    (considered_found es n d.1 each.1 i)

-- what is considered, in order of source
abbrev pub considered_of : Entries → List Candidate
considered_of es = considered_in (map.entries (known_of es))

-- the map considers what the entries do
pub same_members : (es : Entries) → AreDistinct es → EachIsFrom es → SameMembers (considered_of es) (considered_in es)
same_members es d each =
    let m = known_of es in
    let are = are_from es each in
    record {
      into = λ n i. found_in es n.source n (sym (get_from es n.source) ∙ map.get-entries m n.source
          ∙ find_considered (map.entries m) n are.in_order are.own i);
      back = λ n i. found_in (map.entries m) n.source n (sym (map.get-entries m n.source) ∙ get_from es n.source
          ∙ considered_found es n d each i);
    }

pub leads_moved : (always : Bool) (xs ys : List Candidate) (l : Candidate) → SameMembers xs ys →
    Leads always ys l → Leads always xs l
leads_moved always xs ys l same leads = record {
  member = same.back l leads.member;
  first = λ n i s. leads.first n (same.into n i) s;
}

pub best_moved : (always : Bool) (xs ys : List Candidate) (o : Option Candidate) → SameMembers xs ys →
    IsBest always ys o → IsBest always xs o
best_moved always xs ys None same is = λ n i. is n (same.into n i)
best_moved always xs ys (Some b) same is = (
  leads_moved always xs ys b same is.0,
  λ n i. let led = is.1 n (same.into n i) in
      record {
        leader = led.leader;
        leads = leads_moved always xs ys led.leader same led.leads;
        same = led.same;
        least = led.least;
      },
)

best_among_is : (always : Bool) (set : List Candidate) (o : Option Candidate) → HaveOwnSources set →
    IsBest always set o → o ≡ best_among always set
best_among_is always set None own is = sym (ap (best_among always) (nothing_in set is) ∙ best_of_none always)
best_among_is always set (Some b) own is =
    sym (only_one_left always set b own (least_leader_left always set b is.0 is.1))

-- the best of the entries is the map's
pub best_is : (always : Bool) (es : Entries) (o : Option Candidate) → AreDistinct es → EachIsFrom es →
    IsBest always (considered_in es) o → o ≡ best_among always (considered_of es)
best_is always es o d each is =
    let set = considered_of es in
    best_among_is always set o (own_sources (map.entries (known_of es)) (are_from es each))
    (best_moved always set (considered_in es) o (same_members es d each) is)
