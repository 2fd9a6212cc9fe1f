-- What the nodes of a trie say of the way to a prefix.
use Rattle.std.proofs.Common.{◌≡◌, ℕ, ◌<◌, ◌≤◌, Bool, true, false, List, length, map, get_or, Option, Some, None, IsTrue, is_some, refl, sym, ap, subst, ◌∙◌, inl, inr, ◌⊎◌, arith}
use Rattle.std.proofs.lemmas.Bool.{cases_lt, false≢true}
use Rattle.std.specs.Option.{IfNone}
use Rattle.std.specs.Ordering.{is_lt}
use Rattle.prefix_table.specs.Tables.{is_after}
use Rattle.std.proofs.lemmas.List.{get_or-map}
use Rattle.net_prefix.specs.Prefix.{Prefix, Covers, prefix_cmp}
use Rattle.prefix_table.specs.declared.node.Node.{Node}
use Rattle.prefix_table.specs.declared.node.NodeId.{NodeId}
use Rattle.prefix_table.specs.Trie.{bit_at, IsUnder, prefix_at, place_at, child_at, IsTrie, IsNearer, IsLast, IsCover, IsDeepest, IsLater, IsFirstLater}
use Rattle.prefix_table.proofs.Prefixes.{covers_itself, covers_trans, comparable, same_bit, under_further, one_prefix, covered_not_before, upper_not_before}

-- a field of the node that is read at an index
pub read_field : {X Y : Type 0} (f : X → Y) (xs : List X) (i : ℕ) (x : X) (d : Y) → i < length xs → x ≡ get_or xs i x →
    f x ≡ get_or (map f xs) i d
read_field f xs i x d lt is = ap f is ∙ sym (get_or-map f xs i x d lt)

pub IfNone_then : {X : Type 0} (o : Option X) {P Q : Type 0} → IfNone o P → (P → Q) → IfNone o Q
IfNone_then None p f = f p
IfNone_then (Some x) p f = tt

module _ (ns : List Node) (t : IsTrie ns) (at : ℕ) (here : at < length ns) (q : Prefix)
    (covers : Covers (prefix_at ns at) q) where
  -- a longer prefix that covers q lies in q's half
  longer_under : (j : ℕ) → Covers (prefix_at ns j) q → (prefix_at ns at).len < (prefix_at ns j).len →
      IsUnder (prefix_at ns at) (bit_at q.addr (prefix_at ns at).len) (prefix_at ns j)
  longer_under j h lt = record {
    longer = lt;
    covers = comparable (prefix_at ns at) (prefix_at ns j) q covers h (omega arith);
    half = sym (same_bit (prefix_at ns j) q (prefix_at ns at).len h lt);
  }

  pub last_at_empty : child_at ns (bit_at q.addr (prefix_at ns at).len) at ≡ None → IsLast ns q at
  last_at_empty none j in_range h =
      let f : (prefix_at ns at).len < (prefix_at ns j).len →
      ⊥ = λ lt. t.empty at j (bit_at q.addr (prefix_at ns at).len) here in_range none (longer_under j h lt) in
      elim (cases_lt (prefix_at ns at).len (prefix_at ns j).len) as (λ _. (prefix_at ns j).len
      ≤ (prefix_at ns at).len) [ inl lt ↦ absurd (f lt) | inr le ↦ le ]

  pub last_at_other : (k : NodeId) → child_at ns (bit_at q.addr (prefix_at ns at).len) at ≡ Some k →
      (Covers (prefix_at ns k.0) q → ⊥) → IsLast ns q at
  last_at_other k is other j in_range h =
      let f : (prefix_at ns at).len < (prefix_at ns j).len → ⊥ =
      λ lt. other (covers_trans (prefix_at ns k.0) (prefix_at ns j) q
      ((t.below at _ k here is).covers j in_range (longer_under j h lt)) h) in
      elim (cases_lt (prefix_at ns at).len (prefix_at ns j).len) as (λ _. (prefix_at ns j).len
      ≤ (prefix_at ns at).len) [ inl lt ↦ absurd (f lt) | inr le ↦ le ]

  pub nearer_child : (k : NodeId) → child_at ns (bit_at q.addr (prefix_at ns at).len) at ≡ Some k →
      Covers (prefix_at ns k.0) q → IsNearer ns q at k.0
  nearer_child k is h =
      let below = t.below at _ k here is in
      record {
        in_range = below.in_range;
        longer = below.under.longer;
        covers = h;
        next = λ j in_range hj lt. (below.covers j in_range (longer_under j hj lt)).0;
      }

  abbrev pub NoneIsDeeper : Type 0
  NoneIsDeeper = (j : ℕ) → IsCover ns (prefix_at ns at).len q j → (prefix_at ns j).len ≤ (prefix_at ns at).len

  pub deeper_found : (next found : ℕ) → IsNearer ns q at next → IsDeepest ns (prefix_at ns next).len q found →
      IsDeepest ns (prefix_at ns at).len q found
  deeper_found next found near deep = record {
    cover = record {
      in_range = deep.cover.in_range;
      valued = deep.cover.valued;
      covers = deep.cover.covers;
      long = omega (arith, near.longer, deep.cover.long);
    };
    longest = λ j h. elim (cases_lt (prefix_at ns j).len (prefix_at ns next).len) as (λ _. (prefix_at ns j).len
        ≤ (prefix_at ns found).len) [
          | inl lt ↦ omega (arith, deep.cover.long)
          | inr le ↦ deep.longest j (record { in_range = h.in_range; valued = h.valued; covers = h.covers; long = le })
        ];
  }

  pub none_deeper : (next : ℕ) → IsNearer ns q at next → ((j : ℕ) → IsCover ns (prefix_at ns next).len q j → ⊥) →
      NoneIsDeeper
  none_deeper next near none j h =
      elim (cases_lt (prefix_at ns at).len (prefix_at ns j).len) as (λ _. (prefix_at ns j).len
      ≤ (prefix_at ns at).len) [
        | inl lt ↦ absurd (none j (record {
          in_range = h.in_range;
          valued = h.valued;
          covers = h.covers;
          long = near.next j h.in_range h.covers lt;
        }))
        | inr le ↦ le
      ]

  pub none_deeper_last : IsLast ns q at → NoneIsDeeper
  none_deeper_last last j h = last j h.in_range h.covers

  pub deepest_here : IsTrue (is_some (place_at ns at)) → NoneIsDeeper → IsDeepest ns (prefix_at ns at).len q at
  deepest_here valued none = record {
    cover = record { in_range = here; valued = valued; covers = covers; long = omega arith };
    longest = none;
  }

  pub none_here : is_some (place_at ns at) ≡ false → NoneIsDeeper → (j : ℕ) → IsCover ns (prefix_at ns at).len q j → ⊥
  none_here empty none j h =
      let over : Covers (prefix_at ns at) (prefix_at ns j) =
      comparable (prefix_at ns at) (prefix_at ns j) q covers h.covers h.long in
      let same : at ≡ j = t.unique at j here h.in_range
      (one_prefix (prefix_at ns at) (prefix_at ns j) (t.blocks at here) (t.blocks j h.in_range) over (none j h)) in
      false≢true (sym empty ∙ ap (λ i. is_some (place_at ns i)) same ∙ h.valued)

module _ (ns : List Node) (t : IsTrie ns) (at : ℕ) (here : at < length ns) (after : Option Prefix) where
  abbrev pub NoneIn : Bool → Type 0
  NoneIn upper = (j : ℕ) → IsLater ns (prefix_at ns at) after j → IsUnder (prefix_at ns at) upper (prefix_at ns j) → ⊥

  pub first_here : IsTrue (is_some (place_at ns at)) → is_after after (prefix_at ns at) ≡ true →
      IsFirstLater ns (prefix_at ns at) after at
  first_here valued later = record {
    is = record { in_range = here; valued = valued; covers = covers_itself (prefix_at ns at); later = later };
    first = λ j h. covered_not_before (prefix_at ns at) (prefix_at ns j) (t.blocks at here) h.covers;
  }

  pub none_in_empty : (upper : Bool) → child_at ns upper at ≡ None → NoneIn upper
  none_in_empty upper none j h u = t.empty at j upper here h.in_range none u

  pub none_in_child : (upper : Bool) (k : NodeId) → child_at ns upper at ≡ Some k →
      ((j : ℕ) → IsLater ns (prefix_at ns k.0) after j → ⊥) → NoneIn upper
  none_in_child upper k is none j h u =
      none j (record {
        in_range = h.in_range;
        valued = h.valued;
        covers = (t.below at upper k here is).covers j h.in_range u;
        later = h.later;
      })

  -- a later node is this one, or lies in one of its halves
  parts : (j : ℕ) → (IsLater ns (prefix_at ns at) after at → ⊥) → IsLater ns (prefix_at ns at) after j →
      IsUnder (prefix_at ns at) false (prefix_at ns j) ⊎ IsUnder (prefix_at ns at) true (prefix_at ns j)
  parts j own h =
      elim (cases_lt (prefix_at ns at).len (prefix_at ns j).len) as (λ _. IsUnder (prefix_at ns at) false
      (prefix_at ns j) ⊎ IsUnder (prefix_at ns at) true (prefix_at ns j)) [
        | inl lt ↦ elim (bit_at (prefix_at ns j).addr (prefix_at ns at).len) as (λ b.
            bit_at (prefix_at ns j).addr (prefix_at ns at).len ≡ b → IsUnder (prefix_at ns at) false (prefix_at ns j)
            ⊎ IsUnder (prefix_at ns at) true (prefix_at ns j)) [
              | true ↦ λ e. inr (record { longer = lt; covers = h.covers; half = e })
              | false ↦ λ e. inl (record { longer = lt; covers = h.covers; half = e })
            ] refl
        | inr le ↦
            let same : j ≡ at = sym (t.unique at j here h.in_range
            (one_prefix (prefix_at ns at) (prefix_at ns j) (t.blocks at here)
            (t.blocks j h.in_range) h.covers le)) in
            absurd (own (subst (λ i. IsLater ns (prefix_at ns at) after i) same h))
      ]

  up : (upper : Bool) (k : NodeId) (found : ℕ) → child_at ns upper at ≡ Some k →
      IsFirstLater ns (prefix_at ns k.0) after found → IsLater ns (prefix_at ns at) after found
  up upper k found is f = record {
    in_range = f.is.in_range;
    valued = f.is.valued;
    covers = covers_trans (prefix_at ns at) (prefix_at ns k.0) (prefix_at ns found)
        (t.below at upper k here is).under.covers f.is.covers;
    later = f.is.later;
  }

  in_child : (upper : Bool) (k : NodeId) (found j : ℕ) → child_at ns upper at ≡ Some k →
      IsFirstLater ns (prefix_at ns k.0) after found → IsLater ns (prefix_at ns at) after j →
      IsUnder (prefix_at ns at) upper (prefix_at ns j)
      → is_lt (prefix_cmp (prefix_at ns j) (prefix_at ns found)) ≡ false
  in_child upper k found j is f h u =
      f.first j (record {
        in_range = h.in_range;
        valued = h.valued;
        covers = (t.below at upper k here is).covers j h.in_range u;
        later = h.later;
      })

  pub first_in_low : (k : NodeId) (found : ℕ) → (IsLater ns (prefix_at ns at) after at → ⊥) →
      child_at ns false at ≡ Some k → IsFirstLater ns (prefix_at ns k.0) after found →
      IsFirstLater ns (prefix_at ns at) after found
  first_in_low k found own is f =
      let below = t.below at false k here is in
      let low = under_further (prefix_at ns at) false (prefix_at ns k.0) (prefix_at ns found) below.under f.is.covers in
      let short : (prefix_at ns at).len < 32 = omega (arith, below.under.longer, (t.blocks k.0 below.in_range).0) in
      record {
        is = up false k found is f;
        first = λ j h. elim (parts j own h) as (λ _. is_lt (prefix_cmp (prefix_at ns j) (prefix_at ns found)) ≡ false) [
          | inl u ↦ in_child false k found j is f h u
          | inr u ↦ upper_not_before (prefix_at ns at) (prefix_at ns found) (prefix_at ns j) short low u
        ];
      }

  pub first_in_high : (k : NodeId) (found : ℕ) → (IsLater ns (prefix_at ns at) after at → ⊥) → NoneIn false →
      child_at ns true at ≡ Some k → IsFirstLater ns (prefix_at ns k.0) after found →
      IsFirstLater ns (prefix_at ns at) after found
  first_in_high k found own none is f = record {
    is = up true k found is f;
    first = λ j h. elim (parts j own h) as (λ _. is_lt (prefix_cmp (prefix_at ns j) (prefix_at ns found)) ≡ false) [
      | inl u ↦ absurd (none j h u)
      | inr u ↦ in_child true k found j is f h u
    ];
  }

  pub none_later : (IsLater ns (prefix_at ns at) after at → ⊥) → NoneIn false → NoneIn true → (j : ℕ) →
      IsLater ns (prefix_at ns at) after j → ⊥
  none_later own low high j h = elim (parts j own h) as (λ _. ⊥) [ inl u ↦ low j h u | inr u ↦ high j h u ]
