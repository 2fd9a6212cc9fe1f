-- The longest match of a router is the longest of all prefixes that contain the address and have a chosen route.
use Rattle.std.proofs.Common.{◌≡◌, ℕ, ◌≤◌, Bool, true, false, cond, ◌||◌, nat_lt, List, [], ◌∷◌, filter, fold, Option, Some, None, is_some, if◌then◌else◌, refl, sym, ap, subst, ◌∙◌, arith}
use Rattle.std.specs.Cmp.{unsigned_Decides}
use Rattle.std.specs.List.{list_any}
use Rattle.std.proofs.lemmas.Bool.{true≢false, and_parts, and_from, ltb-true, ltb-false}
use Rattle.net_prefix.specs.declared.addr.Addr.{Addr}
use Rattle.net_prefix.specs.Prefix.{Prefix, first_bits, same_prefix}
use Rattle.net_prefix.specs.Tests.{contains}
use Rattle.reference_machine.specs.Network.{Network}
use Rattle.reference_machine.specs.Decision.{best}
use Rattle.reference_machine.specs.Advertising.{prefixes_at, in_order}
use Rattle.reference_machine.specs.Tracing.{longer, longest, forwards_by, longest_match, IsMatch, IsLongestMatch, LongestMatchLaw}
use Rattle.reference_machine.proofs.Known.{same_prefix_true, chosen_known}

-- THE LONGEST OF A LIST

-- the prefix, if there is one, passes the test
abbrev Passes : (Prefix → Bool) → Option Prefix → Type 0
Passes test None = Unit {0}
Passes test (Some p) = test p ≡ true

-- there is a prefix of this length or longer
abbrev Reaches : ℕ → Option Prefix → Type 0
Reaches n None = ⊥
Reaches n (Some p) = n ≤ p.len

longer_passes : (test : Prefix → Bool) (b : Bool) (q p : Prefix) → test q ≡ true → test p ≡ true →
    Passes test (if b then Some p else Some q)
longer_passes test true q p hq hp = hp
longer_passes test false q p hq hp = hq

module _ (test : Prefix → Bool) where
  one_passes : (o : Option Prefix) (p : Prefix) → Passes test o → test p ≡ true → Passes test (longer o p)
  one_passes None p ho hp = hp
  one_passes (Some q) p ho hp = longer_passes test (nat_lt q.len p.len) q p ho hp

  passes_by : (b : Bool) (o : Option Prefix) (p : Prefix) (ps : List Prefix) → test p ≡ b →
      ((x : Option Prefix) → Passes test x → Passes test (fold longer x (filter test ps))) → Passes test o →
      Passes test (fold longer o (cond b (p ∷ filter test ps) (filter test ps)))
  passes_by true o p ps is later h = later (longer o p) (one_passes o p h is)
  passes_by false o p ps is later h = later o h

  -- the longest of those that pass, passes
  longest_passes : (ps : List Prefix) (o : Option Prefix) → Passes test o → Passes test (fold longer o (filter test ps))
  longest_passes [] o h = h
  longest_passes (p ∷ ps) o h = passes_by (test p) o p ps refl (longest_passes ps) h

longer_by : (n : ℕ) (b : Bool) (q p : Prefix) → nat_lt q.len p.len ≡ b → n ≤ q.len →
    Reaches n (if b then Some p else Some q)
longer_by n true q p is h = omega (arith, h, ltb-true q.len p.len is)
longer_by n false q p is h = h

still_reaches : (n : ℕ) (o : Option Prefix) (p : Prefix) → Reaches n o → Reaches n (longer o p)
still_reaches n None p h = absurd h
still_reaches n (Some q) p h = longer_by n (nat_lt q.len p.len) q p refl h

now_by : (b : Bool) (q p : Prefix) → nat_lt q.len p.len ≡ b → Reaches p.len (if b then Some p else Some q)
now_by true q p is = omega arith
now_by false q p is = omega (arith, ltb-false q.len p.len is)

now_reaches : (o : Option Prefix) (p : Prefix) → Reaches p.len (longer o p)
now_reaches None p = omega arith
now_reaches (Some q) p = now_by (nat_lt q.len p.len) q p refl

all_reach : (n : ℕ) (ps : List Prefix) (o : Option Prefix) → Reaches n o → Reaches n (fold longer o ps)
all_reach n [] o h = h
all_reach n (p ∷ ps) o h = all_reach n ps (longer o p) (still_reaches n o p h)

reaches_by : (b : Bool) (q p : Prefix) (ps : List Prefix) (o : Option Prefix) → same_prefix q p ≡ b →
    (list_any (same_prefix q) ps ≡ true → Reaches q.len (fold longer (longer o p) ps)) →
    (b || list_any (same_prefix q) ps) ≡ true → Reaches q.len (fold longer (longer o p) ps)
reaches_by true q p ps o is later h =
    let P : Prefix → Type 0 = λ x. Reaches x.len (longer o p) in
    all_reach q.len ps (longer o p) (subst P (sym (same_prefix_true q p is)) (now_reaches o p))
reaches_by false q p ps o is later h = later h

-- the longest of a list is as long as each of it
longest_reaches : (q : Prefix) (ps : List Prefix) (o : Option Prefix) → list_any (same_prefix q) ps ≡ true →
    Reaches q.len (fold longer o ps)
longest_reaches q [] o h = absurd (true≢false (sym h))
longest_reaches q (p ∷ ps) o h = reaches_by (same_prefix q p) q p ps o refl (longest_reaches q ps (longer o p)) h

stays_by : (test : Prefix → Bool) (q p : Prefix) (ps : List Prefix) (here kept : Bool) → same_prefix q p ≡ here →
    test p ≡ kept → test q ≡ true →
    (list_any (same_prefix q) ps ≡ true → list_any (same_prefix q) (filter test ps) ≡ true) →
    (here || list_any (same_prefix q) ps) ≡ true →
    list_any (same_prefix q) (cond kept (p ∷ filter test ps) (filter test ps)) ≡ true
stays_by test q p ps true true is keeps passes later h = ap (λ b. b || list_any (same_prefix q) (filter test ps)) is
stays_by test q p ps true false is keeps passes later h =
    absurd (true≢false (sym passes ∙ ap test (same_prefix_true q p is) ∙ keeps))
stays_by test q p ps false true is keeps passes later h = ap (λ b. b || list_any (same_prefix q) (filter test ps)) is
    ∙ later h
stays_by test q p ps false false is keeps passes later h = later h

-- one that passes stays
stays : (test : Prefix → Bool) (q : Prefix) → test q ≡ true → (ps : List Prefix) → list_any (same_prefix q) ps ≡ true →
    list_any (same_prefix q) (filter test ps) ≡ true
stays test q passes [] h = h
stays test q passes (p ∷ ps) h = stays_by test q p ps (same_prefix q p) (test p) refl refl passes
    (stays test q passes ps) h

-- THE LONGEST MATCH

module _ (s : Network) (r d : Addr) where
  has_route : (p : Prefix) → forwards_by s r d p ≡ true → IsMatch s r d p
  has_route p h =
      let parts = and_parts (contains p d) (is_some (best s r p)) h in
      record {
        contains = (unsigned_Decides (first_bits p.len d) (first_bits p.len p.addr)).0 parts.0;
        chosen = parts.1;
      }

  forwards : (p : Prefix) → IsMatch s r d p → forwards_by s r d p ≡ true
  forwards p h = and_from (contains p d) (is_some (best s r p))
      ((unsigned_Decides (first_bits p.len d) (first_bits p.len p.addr)).1 h.contains) h.chosen

  reached : (p : Prefix) → IsMatch s r d p →
      Reaches p.len (longest (filter (forwards_by s r d) (in_order (prefixes_at s r))))
  reached p h = longest_reaches p (filter (forwards_by s r d) (in_order (prefixes_at s r))) None
      (stays (forwards_by s r d) p (forwards p h) (in_order (prefixes_at s r)) (chosen_known s r p h.chosen))

  match_by : (o : Option Prefix) → Passes (forwards_by s r d) o → ((p : Prefix) → IsMatch s r d p → Reaches p.len o) →
      IsLongestMatch s r d o
  match_by None passes reaches = reaches
  match_by (Some p) passes reaches = record { has = has_route p passes; longest = reaches }

pub longest_match_law : LongestMatchLaw
unfolding longest_match
longest_match_law s r d =
    match_by s r d (longest (filter (forwards_by s r d) (in_order (prefixes_at s r))))
    (longest_passes (forwards_by s r d) (in_order (prefixes_at s r)) None tt) (reached s r d)
