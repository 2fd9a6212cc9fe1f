-- A lone route whose cost becomes another, in the entries and in the map that they make.
use Rattle.std.proofs.Common.{◌≡◌, Bool, ℕ, zero, suc, ◌+◌, true, false, cond, [], ◌∷◌, length, Option, Some, None, is_some, refl, sym, ap, subst, ◌∙◌, inl, inr, arith}
use Rattle.std.proofs.lemmas.List.{with_items_is}
use Rattle.std.specs.Global.{Vec}
use Rattle.std.specs.Vec.{with_items}
use Rattle.std.specs.FinMap as map
use Rattle.std.specs.FinMap.Entries.{put}
use Rattle.std.specs.Ordering.{eq_by_cmp}
use Rattle.route_select.specs.declared.candidate.Source.{Source}
use Rattle.route_select.specs.declared.candidate.Candidate.{Candidate}
use Rattle.route_select.specs.declared.candidate.Standing.{Standing}
use Rattle.route_select.specs.declared.candidate.Standing.TheVariants.{Excluded, Considered}
use Rattle.route_select.specs.Selection.{source_cmp, IsFrom, filters, considered_in, same_group}
use Rattle.route_select.specs.Entries.{AreEntries, EachIsFrom, candidate_at, lone_entries_at}
use Rattle.route_select.specs.Leaders.{Leads, ahead, unmed}
use Rattle.route_select.specs.Groups.{AreDistinct, AreGrouped, IsBest, known_of}
use Rattle.route_select.specs.AtCost.{with_cost, lone_at_cost}
use Rattle.route_select.proofs.Ranks.{same_itself}
use Rattle.route_select.proofs.Filtering.{never_ahead}
use Rattle.route_select.proofs.EntryLemmas.{Entries, map_of, map_of_none, entries_of, put_of, tied, same_source, source_total}
use Rattle.route_select.proofs.GroupMap.{shadowed, get_from}

-- the vector's entries after a slice of them was written
pub written_back : (v : Vec (Source × Standing)) (lent new : Entries) (k : ℕ) → length lent ≡ v.len → lent ≡ v.items →
    length new ≡ length lent → new ≡ lone_entries_at k lent → (with_items v new).items ≡ lone_entries_at k v.items
written_back v lent new k whole same long new_is = with_items_is v new (long ∙ whole) ∙ new_is
    ∙ ap (lone_entries_at k) same

-- the route stays its source's own
from_at : (k : ℕ) (s : Source) (v : Standing) → IsFrom s v → IsFrom s (with_cost k v)
from_at k s (Excluded r) from = from
from_at k s (Considered c) from = from

each_at : (k : ℕ) (es : Entries) → EachIsFrom es → EachIsFrom (lone_entries_at k es)
each_at k [] each = tt
each_at k (e ∷ []) each = (from_at k e.0 e.1 each.0, tt)
each_at k (e ∷ f ∷ es) each = each

-- in order of source
pub are_at : (k : ℕ) (es : Entries) → AreEntries es → AreEntries (lone_entries_at k es)
are_at k [] are = are
are_at k (e ∷ []) are = record { in_order = refl; own = each_at k (e ∷ []) are.own }
are_at k (e ∷ f ∷ es) are = are

-- a lone entry is written over
put_alone : (e : Source × Standing) (v : Standing) → put source_cmp e.0 v (e ∷ []) ≡ (e.0, v) ∷ []
put_alone e v = rw (tied e.0) refl

-- what the map of these entries becomes
pub map_at : (k : ℕ) (es : Entries) → AreEntries es →
    map_of (lone_entries_at k es) ≡ lone_at_cost k (map_of es) (map.entries (map_of es))
map_at k es are = go es are ∙ ap (lone_at_cost k (map_of es)) (sym (entries_of es are))
  where
    go : (es : Entries) → AreEntries es → map_of (lone_entries_at k es) ≡ lone_at_cost k (map_of es) es
    go [] are = refl
    go (e ∷ []) are = ap map_of (sym (put_alone e (with_cost k e.1))) ∙ put_of (e ∷ []) e.0 (with_cost k e.1) are
    go (e ∷ f ∷ es) are = refl

-- in groups
absent : (o : Option Standing) → o ≡ None → is_some o ≡ false
absent None h = refl
absent (Some v) h = absurd (cc)

count_of : (es : Entries) → AreDistinct es → map.len (known_of es) ≡ length es
count_of [] d = map.len-empty source_cmp Standing
count_of (e ∷ es) d =
    let new : map.contains_key (known_of es) e.0 ≡ false = absent _ (get_from es e.0 ∙ d.0) in
    let more : map.len (known_of (e ∷ es)) ≡ map.len (known_of es) + 1 =
    map.len-insert source_total (known_of es) e.0 e.1
    ∙ ap (λ b. cond b (map.len (known_of es)) (map.len (known_of es) + 1)) new in
    let so = count_of es d.1 in
    omega arith

-- where there is not one entry, nothing changes
not_alone : (k : ℕ) (m : map.FinMap source_cmp Standing) (xs : Entries) → (length xs ≡ 1 → ⊥) → lone_at_cost k m xs ≡ m
not_alone k m [] apart = refl
not_alone k m (x ∷ []) apart = absurd (apart refl)
not_alone k m (x ∷ y ∷ xs) apart = refl

-- what is put in last counts
put_again : (m : map.FinMap source_cmp Standing) (s : Source) (v w : Standing) →
    map.insert m s w ≡ map.insert (map.insert m s v) s w
put_again m s v w = map.same_map source_total same_source _ _ (λ q.
    map.get-insert source_total m s w q
    ∙ sym (map.get-insert source_total (map.insert m s v) s w q
    ∙ ap (cond (eq_by_cmp source_cmp q s) (Some w)) (map.get-insert source_total m s v q)
    ∙ shadowed (eq_by_cmp source_cmp q s) (Some w) (Some v) (map.get m q)))

entries_of_none : map.entries (known_of []) ≡ []
entries_of_none = ap map.entries (sym map_of_none) ∙ map.entries-from_sorted source_cmp [] tt

entries_of_one : (e : Source × Standing) → map.entries (known_of (e ∷ [])) ≡ (e.0, e.1) ∷ []
entries_of_one e = map.entries-insert source_total (known_of []) e.0 e.1 ∙ ap (put source_cmp e.0 e.1) entries_of_none

-- what the map of these entries becomes
pub known_at : (k : ℕ) (es : Entries) → AreDistinct es →
    known_of (lone_entries_at k es) ≡ lone_at_cost k (known_of es) (map.entries (known_of es))
known_at k [] d = sym (ap (lone_at_cost k (known_of [])) entries_of_none)
known_at k (e ∷ []) d = put_again (known_of []) e.0 e.1 (with_cost k e.1)
    ∙ sym (ap (lone_at_cost k (known_of (e ∷ []))) (entries_of_one e))
known_at k (e ∷ f ∷ es) d = sym (not_alone k (known_of (e ∷ f ∷ es)) _ (λ one.
    let count : map.len (known_of (e ∷ f ∷ es)) ≡ length (e ∷ f ∷ es) = count_of (e ∷ f ∷ es) d in
    let same : map.len (known_of (e ∷ f ∷ es)) ≡ length (map.entries (known_of (e ∷ f ∷ es))) =
    map.len-entries (known_of (e ∷ f ∷ es)) in
    absurd (omega arith)))

-- a lone route is the best
alone_leads : (always : Bool) (c : Candidate) → Leads always (c ∷ []) c
alone_leads always c = record {
  member = inl refl;
  first = λ n i s. elim i [
    | inl e ↦ subst (λ z. ahead always filters z c ≡ false) e (never_ahead always filters c)
    | inr never ↦ absurd never
  ];
}

alone_is_best : (always : Bool) (c : Candidate) → IsBest always (c ∷ []) (Some c)
alone_is_best always c = (
  alone_leads always c,
  λ n i. elim i [
    | inl e ↦ record {
      leader = c;
      leads = alone_leads always c;
      same = subst (λ z. same_group always z c ≡ true) e (same_itself always c);
      least = never_ahead always unmed c;
    }
    | inr never ↦ absurd never
  ],
)

best_alone : (always : Bool) (k : ℕ) (s : Source) (v : Standing) (at : ℕ) →
    IsBest always (considered_in ((s, v) ∷ [])) (candidate_at ((s, v) ∷ []) at) →
    IsBest always (considered_in ((s, with_cost k v) ∷ [])) (candidate_at ((s, with_cost k v) ∷ []) at)
best_alone always k s (Excluded r) at is = is
best_alone always k s (Considered c) zero is = alone_is_best always (record c { cost = k })
best_alone always k s (Considered c) (suc at) is = absurd (is c (inl refl))

-- in groups as before
pub grouped_at : (always : Bool) (k : ℕ) (es : Entries) (at : ℕ) → AreGrouped always es at →
    AreGrouped always (lone_entries_at k es) at
grouped_at always k [] at is = is
grouped_at always k (e ∷ []) at is = record {
  ranked = (λ f never. absurd never, tt);
  distinct = (refl, tt);
  own = each_at k (e ∷ []) is.own;
  best = best_alone always k e.0 e.1 at is.best;
  few = is.few;
}
grouped_at always k (e ∷ f ∷ es) at is = is
