-- The sessions that are down, before and after an edit.
use Rattle.std.proofs.Common.{◌≡◌, ℕ, ◌<◌, Bool, true, false, cond, not, ◌&&◌, ◌||◌, nat_le, List, [], ◌∷◌, filter, length, get_or, Option, Some, None, All, option_map, is_some, if◌then◌else◌, refl, sym, ap, ◌∙◌, arith}
use Rattle.std.specs.Option.{unwrap_or}
use Rattle.std.specs.Cmp.{tied_itself}
use Rattle.std.specs.Ordering.{is_eq}
use Rattle.std.specs.List.{list_any}
use Rattle.std.specs.List.Sorted.{IsStrictlySortedBy}
use Rattle.std.specs.Map.{keys_of, lookup}
use Rattle.std.specs.Set.{remove_key}
use Rattle.std.specs.BTreeMap.{insert_entry, is_at}
use Rattle.std.specs.BTreeSet.{insert_key}
use Rattle.std.proofs.Math.Bool.{beq}
use Rattle.std.proofs.lemmas.Bool.{true≢false}
use Rattle.std.proofs.lemmas.Bool.Decides.{nat_tests}
use Rattle.std.proofs.lemmas.List.Folds.{list_any_at}
use Rattle.std.proofs.lemmas.List.Elements.{All-contains, All-filter, filter_passes, filter_agree}
use Rattle.std.proofs.lemmas.List.Kept.{IsStrictlySortedBy-filter}
use Rattle.std.proofs.lemmas.Map.Made.{is_some-lookup}
use Rattle.std.proofs.lemmas.Map.Views.{any-filter_same, Contains-from_any}
use Rattle.net_prefix.specs.declared.addr.Addr.{Addr}
use Rattle.net_conf.specs.declared.tables.Ends.{Ends}
use Rattle.net_conf.specs.Configuration.{Configuration, ends_of, ends_cmp, is_end, ends_session, session_between, has_session}
use Rattle.net_conf.specs.Concerned.{is_among}
use Rattle.net_conf.specs.Configured.{AreApart}
use Rattle.net_conf.specs.Costs.{session_up, is_up, is_connected, down_sessions}
use Rattle.net_conf.specs.Kept.{CostsStayBut, IsLinked, IsJoined, IsTurned, NoneGoesDown}
use Rattle.net_conf.proofs.Concerns.{up_turned}
use Rattle.net_conf.proofs.Inserted.{any_key, found_in}
use Rattle.net_conf.proofs.KeptTrees.{ends_exact, ends_total, same_ends}
use Rattle.net_conf.proofs.LinkConcerns.{low_ends, high_ends, stays_with_each, concerns_of_link}
use Rattle.net_conf.proofs.Nodes.{some_mapped}
use Rattle.net_conf.proofs.SameKeys.{same_keys, taken_out}
use Rattle.net_conf.proofs.Unseen.{any_without, lookup_with}

-- the session is down
abbrev pub is_down : Configuration → Ends → Bool
is_down c e = not (is_up c e.low e.high)

abbrev pub is_session : Configuration → Ends → Bool
is_session c e = list_any (is_at (ends_cmp e)) (keys_of c.sessions)

-- A SESSION AMONG THEM

up_by : (c : Configuration) (a b : Addr) (le : Bool) (e : Ends) →
    e ≡ (if le then record { low = a; high = b } else record { low = b; high = a }) → is_up c e.low e.high ≡ is_up c a b
up_by c a b true e is = ap (λ x. is_up c x.low x.high) is
up_by c a b false e is = ap (λ x. is_up c x.low x.high) is ∙ up_turned c b a

-- a session of two is up by its ends
pub up_of_ends : (c : Configuration) (a b : Addr) → is_up c (ends_of a b).low (ends_of a b).high ≡ is_up c a b
up_of_ends c a b = up_by c a b (nat_le a.0 b.0) (ends_of a b) refl

-- who is among those that are down is a session that is down
pub among_down : (c : Configuration) (e : Ends) → list_any (is_at (ends_cmp e)) (down_sessions c)
    ≡ (is_down c e && is_session c e)
among_down c e = any-filter_same (is_at (ends_cmp e)) (is_down c) (is_down c e)
    (λ x at. ap (is_down c) (sym (same_ends e x at))) (keys_of c.sessions)

and_true : (b : Bool) → (b && true) ≡ b
and_true true = refl
and_true false = refl

and_false : (b : Bool) → (b && false) ≡ false
and_false true = refl
and_false false = refl

pub among_if_down : (c : Configuration) (e : Ends) → is_session c e ≡ true →
    list_any (is_at (ends_cmp e)) (down_sessions c) ≡ is_down c e
among_if_down c e there = among_down c e ∙ ap (λ t. is_down c e && t) there ∙ and_true (is_down c e)

not_not : (b : Bool) → not (not b) ≡ b
not_not true = refl
not_not false = refl

-- a session at a place among all
pub session_at : (c : Configuration) (i : ℕ) (d : Ends) → i < length (keys_of c.sessions) →
    is_session c (get_or (keys_of c.sessions) i d) ≡ true
session_at c i d lt = let e = get_or (keys_of c.sessions) i d in
    list_any_at (is_at (ends_cmp e)) (keys_of c.sessions) i d lt (ap is_eq (tied_itself ends_total e))

-- a session that is among those that are down, and one that is not
pub up_unless_among : (c : Configuration) (e : Ends) (t : Bool) → is_session c e ≡ true →
    list_any (is_at (ends_cmp e)) (down_sessions c) ≡ t → is_up c e.low e.high ≡ not t
up_unless_among c e t there is = sym (not_not (is_up c e.low e.high)) ∙ ap not (sym (among_if_down c e there) ∙ is)

pub session_there : (c : Configuration) (a b : Addr) → has_session c a b ≡ true → is_session c (ends_of a b) ≡ true
session_there c a b is = sym (is_some-lookup (is_at (ends_cmp (ends_of a b))) c.sessions) ∙ is

-- so a look-up among them tells the state of a session
state_known : (o : Option Bool) → is_some o ≡ true → o ≡ Some (unwrap_or o false)
state_known None some = absurd (true≢false (sym some))
state_known (Some up) some = refl

state_unknown : (o : Option Bool) → is_some o ≡ false → o ≡ None
state_unknown None none = refl
state_unknown (Some up) none = absurd (true≢false none)

has_state : (c : Configuration) (a b : Addr) → is_some (session_up c a b) ≡ has_session c a b
unfolding session_up
has_state c a b = some_mapped (λ enabled. enabled && is_connected c a b) (session_between c a b)

pub state_found : (c : Configuration) (a b : Addr) → has_session c a b ≡ true →
    Some (not (list_any (is_at (ends_cmp (ends_of a b))) (down_sessions c))) ≡ session_up c a b
state_found c a b there =
    ap (λ t. Some (not t)) (among_if_down c (ends_of a b) (session_there c a b there) ∙ ap not (up_of_ends c a b))
    ∙ ap Some (not_not (is_up c a b))
    ∙ sym (state_known (session_up c a b) (has_state c a b ∙ there))

pub state_missing : (c : Configuration) (a b : Addr) → has_session c a b ≡ false → session_up c a b ≡ None
state_missing c a b none = state_unknown (session_up c a b) (has_state c a b ∙ none)

-- what is known of a session at a place among them
pub record IsDownSession (c : Configuration) (e : Ends) : Type 0 where
  pub low : ends_session c e.low ≡ true
  pub high : ends_session c e.high ≡ true
  pub down : is_up c e.low e.high ≡ false

not_true : (b : Bool) → not b ≡ true → b ≡ false
not_true true is = absurd (true≢false (sym is))
not_true false is = refl

pub down_at : (c : Configuration) (i : ℕ) (d : Ends) → i < length (down_sessions c) →
    IsDownSession c (get_or (down_sessions c) i d)
down_at c i d lt =
    let ks = keys_of c.sessions in
    let HasLow : Ends → Type 0 = λ e. ends_session c e.low ≡ true in
    let HasHigh : Ends → Type 0 = λ e. ends_session c e.high ≡ true in
    record {
      low = All-filter (is_down c) HasLow ks (λ k x within. low_ends c k x within) i d lt;
      high = All-filter (is_down c) HasHigh ks (λ k x within. high_ends c k x within) i d lt;
      down = not_true (is_up c (get_or (down_sessions c) i d).low (get_or (down_sessions c) i d).high)
          (filter_passes (is_down c) ks i d lt);
    }

pub down_in_order : (c : Configuration) → IsStrictlySortedBy ends_cmp (keys_of c.sessions) →
    IsStrictlySortedBy ends_cmp (down_sessions c)
down_in_order c sorted = IsStrictlySortedBy-filter ends_cmp (is_down c) (keys_of c.sessions) sorted

-- A LINK

-- those that are left of fewer
filter_fewer : {X : Type 0} (p q : X → Bool) → ((x : X) → q x ≡ true → p x ≡ true) → (xs : List X) →
    filter q (filter p xs) ≡ filter q xs
filter_fewer p q fewer [] = refl
filter_fewer p q fewer (x ∷ xs) = by (p x) (q x) refl refl (filter_fewer p q fewer xs)
  where
    by : (t u : Bool) → p x ≡ t → q x ≡ u → filter q (filter p xs) ≡ filter q xs →
        filter q (cond t (x ∷ filter p xs) (filter p xs)) ≡ cond u (x ∷ filter q xs) (filter q xs)
    by true u first second rest = ap (λ v. cond v (x ∷ filter q (filter p xs)) (filter q (filter p xs))) second
        ∙ ap (λ ys. cond u (x ∷ ys) ys) rest
    by false true first second rest = absurd (true≢false (sym (fewer x second) ∙ first))
    by false false first second rest = rest

not_both : (p q : Bool) → (p ≡ true → q ≡ true) → not q ≡ true → not p ≡ true
not_both false q so is = refl
not_both true true so is = is
not_both true false so is = absurd (true≢false (sym (so refl)))

-- what is down stays so, where none comes up
pub stays_down : (c d : Configuration) → NoneGoesDown d c → (a b : Addr) → is_up c a b ≡ false → is_up d a b ≡ false
stays_down c d none a b down = by (is_up d a b) refl
  where
    by : (t : Bool) → is_up d a b ≡ t → t ≡ false
    by true is = sym (none a b is) ∙ down
    by false is = refl

pub same_sessions : (c d : Configuration) (a b : Addr) → IsLinked c d a b → keys_of d.sessions ≡ keys_of c.sessions
same_sessions c d a b linked = ap (λ (z : Configuration). keys_of z.sessions) linked.is

-- where none goes down, those that are down are left of those that were
pub left_down : (c d : Configuration) (a b : Addr) → IsLinked c d a b → NoneGoesDown c d →
    filter (is_down d) (down_sessions c) ≡ down_sessions d
left_down c d a b linked none =
    filter_fewer (is_down c) (is_down d) (λ e. not_both (is_up c e.low e.high) (is_up d e.low e.high)
    (none e.low e.high)) (keys_of c.sessions)
    ∙ ap (filter (is_down d)) (sym (same_sessions c d a b linked))

pub one_state : (p q : Bool) → beq p q ≡ true → p ≡ q
one_state true true is = refl
one_state true false is = absurd (true≢false (sym is))
one_state false true is = absurd (true≢false (sym is))
one_state false false is = refl

same_bool : (p q : Bool) → (p ≡ true → q ≡ true) → (q ≡ true → p ≡ true) → q ≡ p
same_bool true q to from = to refl
same_bool false true to from = sym (from refl)
same_bool false false to from = refl

-- where none goes down and none comes up, all stay
pub all_stay : (c d : Configuration) → NoneGoesDown c d → NoneGoesDown d c → (a b : Addr) → is_up d a b ≡ is_up c a b
all_stay c d to from a b = same_bool (is_up c a b) (is_up d a b) (to a b) (from a b)

-- and the same ones are down
pub same_down : (c d : Configuration) → keys_of d.sessions ≡ keys_of c.sessions →
    ((a b : Addr) → is_up d a b ≡ is_up c a b) → down_sessions d ≡ down_sessions c
same_down c d sessions same = filter_agree (is_down d) (is_down c) (λ e. ap not (same e.low e.high))
    (keys_of d.sessions) ∙ ap (filter (is_down c)) sessions

not_same : (p q : Bool) → not p ≡ not q → p ≡ q
not_same true true is = refl
not_same true false is = absurd (true≢false (sym is))
not_same false true is = absurd (true≢false is)
not_same false false is = refl

-- who ends no session that is down by one and not by the other has all sessions as before
pub stays_up_with : (c d : Configuration) (a b r : Addr) → IsLinked c d a b →
    ((e : Ends) → is_end r e ≡ true → list_any (is_at (ends_cmp e)) (down_sessions d) ≡ list_any (is_at (ends_cmp e))
    (down_sessions c)) → (u : Addr) → is_up d u r ≡ is_up c u r
stays_up_with c d a b r linked same = stays_with_each c d a b linked r (λ e end there.
    not_same (is_up d e.low e.high) (is_up c e.low e.high)
    (sym (among_if_down d e (ap (list_any (is_at (ends_cmp e))) (same_sessions c d a b linked) ∙ there)) ∙ same e end
    ∙ among_if_down c e there))

-- so the link concerns those whose costs have moved, and the ends of the sessions that have turned
pub turned_is : (c d : Configuration) (a b : Addr) → IsLinked c d a b → (moved turned : List Addr) (down : List Ends) →
    CostsStayBut c d moved → down ≡ down_sessions d →
    ((r : Addr) → is_among r turned ≡ false → (u : Addr) → is_up d u r ≡ is_up c u r) → IsTurned c d moved down turned
turned_is c d a b linked moved turned down costs is same = record {
  are_down = is;
  sessions = λ r u out. same r out u;
  ends = λ r out. ap (λ x. ends_session x r) linked.is;
  alone = λ r unmoved out. concerns_of_link c d a b linked r (same r out) (costs r unmoved);
}

-- A SESSION

ends_ordered : (low high : Addr) → low.0 < high.0 → nat_le low.0 high.0 ≡ true
ends_ordered low high lt = grind (arith, nat_tests)

-- ends that are apart are those of their two
pub apart_are : (e : Ends) → AreApart e → ends_of e.low e.high ≡ e
apart_are e apart = ap (λ t. if t then record { low = e.low; high = e.high } else record { low = e.high; high = e.low })
    (ends_ordered e.low e.high apart)

module _ (c d : Configuration) (a b : Addr) (joined : IsJoined c d a b)
    (apart : All AreApart (keys_of c.sessions)) where
  abbrev own : Ends
  own = ends_of a b

  session_after : (e : Ends) → is_session d e ≡ (is_at (ends_cmp e) own || is_session c e)
  session_after e =
      ap (λ (z : Configuration). is_session z e) joined.is
      ∙ sym (is_some-lookup (is_at (ends_cmp e)) (insert_entry ends_cmp c.sessions own joined.enabled))
      ∙ ap is_some (found_in ends_cmp ends_exact own joined.enabled ends_total e c.sessions)
      ∙ by (is_at (ends_cmp e) own)
    where
      by : (t : Bool) → is_some (cond t (Some joined.enabled) (lookup (is_at (ends_cmp e)) c.sessions))
          ≡ (t || is_session c e)
      by true = refl
      by false = is_some-lookup (is_at (ends_cmp e)) c.sessions

  -- another session stays as it was
  other_stays : (e : Ends) → is_at (ends_cmp e) own ≡ false → AreApart e → is_up d e.low e.high ≡ is_up c e.low e.high
  unfolding session_up
  other_stays e other is_apart =
      ap (λ z. is_up z e.low e.high) joined.is
      ∙ ap (λ o. unwrap_or (option_map (λ enabled. enabled && is_connected c e.low e.high) o) false)
      (lookup_with ends_cmp ends_exact (is_at (ends_cmp (ends_of e.low e.high))) own
      (ap (λ x. is_at (ends_cmp x) own) (apart_are e is_apart) ∙ other) joined.enabled c.sessions)

  among_others : (e : Ends) → is_at (ends_cmp e) own ≡ false → list_any (is_at (ends_cmp e)) (down_sessions d)
      ≡ list_any (is_at (ends_cmp e)) (down_sessions c)
  among_others e other = among_down d e
      ∙ ap (λ t. is_down d e && t) (session_after e ∙ ap (λ t. t || is_session c e) other) ∙ by (is_session c e) refl
      ∙ sym (among_down c e)
    where
      by : (t : Bool) → is_session c e ≡ t → (is_down d e && is_session c e) ≡ (is_down c e && is_session c e)
      by true is = ap (λ up. not up && is_session c e)
          (other_stays e other (All-contains AreApart (keys_of c.sessions) e apart
          (Contains-from_any {eq = λ x. is_at (ends_cmp x)} same_ends e (keys_of c.sessions) is)))
      by false is = ap (λ t. is_down d e && t) is ∙ and_false (is_down d e)
          ∙ sym (ap (λ t. is_down c e && t) is ∙ and_false (is_down c e))

  among_own : (up : Bool) → is_up d a b ≡ up → (e : Ends) → is_at (ends_cmp e) own ≡ true →
      list_any (is_at (ends_cmp e)) (down_sessions d) ≡ not up
  among_own up is e at =
      among_if_down d e (session_after e ∙ ap (λ t. t || is_session c e) at)
      ∙ ap (is_down d) (same_ends e own at) ∙ ap not (up_of_ends d a b ∙ is)

  module _ (before : IsStrictlySortedBy ends_cmp (down_sessions c))
      (sessions : IsStrictlySortedBy ends_cmp (keys_of d.sessions)) where
    pub down_with_one : is_up d a b ≡ false → IsStrictlySortedBy ends_cmp (insert_key ends_cmp (down_sessions c) own) →
        insert_key ends_cmp (down_sessions c) own ≡ down_sessions d
    down_with_one is sorted = same_keys ends_cmp ends_total ends_exact _ _ sorted (down_in_order d sessions)
        (λ e. any_key ends_cmp ends_exact own (is_at (ends_cmp e)) (down_sessions c)
        ∙ by e (is_at (ends_cmp e) own) refl)
      where
        by : (e : Ends) (t : Bool) → is_at (ends_cmp e) own ≡ t → (t || list_any (is_at (ends_cmp e)) (down_sessions c))
            ≡ list_any (is_at (ends_cmp e)) (down_sessions d)
        by e true at = sym (among_own false is e at)
        by e false at = sym (among_others e at)

    pub down_without_one : is_up d a b ≡ true →
        IsStrictlySortedBy ends_cmp (remove_key (is_at (ends_cmp own)) (down_sessions c)) →
        remove_key (is_at (ends_cmp own)) (down_sessions c) ≡ down_sessions d
    down_without_one is sorted = same_keys ends_cmp ends_total ends_exact _ _ sorted (down_in_order d sessions)
        (λ e. by e (is_at (ends_cmp e) own) refl)
      where
        by : (e : Ends) (t : Bool) → is_at (ends_cmp e) own ≡ t →
            list_any (is_at (ends_cmp e)) (remove_key (is_at (ends_cmp own)) (down_sessions c))
            ≡ list_any (is_at (ends_cmp e)) (down_sessions d)
        by e true at =
            ap (λ x. list_any (is_at (ends_cmp x)) (remove_key (is_at (ends_cmp own)) (down_sessions c)))
            (same_ends e own at)
            ∙ taken_out ends_cmp ends_total ends_exact own (down_sessions c) before
            ∙ sym (among_own true is e at)
        by e false at = any_without ends_cmp ends_exact (is_at (ends_cmp e)) own at (down_sessions c)
            ∙ sym (among_others e at)
