-- The entries that a node covers: its own, then those below its lower half, then those below its upper half.
use Rattle.std.proofs.Common.{◌≡◌, ℕ, ◌-◌, ◌<◌, Bool, true, false, cond, ◌||◌, T, List, [], ◌∷◌, ◌++◌, length, Option, Some, None, IsTrue, is_some, refl, sym, ap, subst, ◌∙◌, inl, inr, arith}
use Rattle.std.proofs.lemmas.Bool.{false≢true, cases_lt, or_cases, and_parts, and_from, leb-true, le-leb, eqb-true, eq-eqb}
use Rattle.std.specs.Option.{IfSome}
use Rattle.std.specs.declared.cmp.Ordering.TheVariants.{Less, Equal, Greater}
use Rattle.std.specs.Ordering.{is_lt, eq_by_cmp, ordering_reverse}
use Rattle.std.specs.Cmp.{tied_itself}
use Rattle.std.specs.FinMap as fin
use Rattle.std.specs.FinMap.Entries.{find, is_sorted, below_all, where_key, find-where_key, is_sorted-where_key, same_entries}
use Rattle.net_prefix.specs.Prefix.{Prefix, Covers, prefix_cmp}
use Rattle.net_prefix.specs.Orders.{prefix_total, prefix_exact}
use Rattle.prefix_table.specs.declared.node.Node.{Node}
use Rattle.prefix_table.specs.declared.node.NodeId.{NodeId}
use Rattle.prefix_table.specs.Trie.{bit_at, IsUnder, prefix_at, place_at, child_at, IsTrie, covers, is_in, places_in, entries_below, entry_or_not, node_places}
use Rattle.prefix_table.proofs.Prefixes.{covers_itself, under_further, one_prefix, covered_not_before, upper_not_before}
use Rattle.prefix_table.proofs.Entries.{first, second, less_of}
use Rattle.prefix_table.proofs.Contents.{equal_keys, same_key, get_of_nodes, find_at_node, node_of}

is_covered : (p q : Prefix) → covers p q ≡ true → Covers p q
is_covered p q e = let h = and_parts _ _ e in (leb-true _ _ h.0, eqb-true _ _ h.1)

pub covered : (p q : Prefix) → Covers p q → covers p q ≡ true
covered p q h = and_from _ _ (le-leb _ _ h.0) (eq-eqb _ _ h.1)

-- what does not come before another and is not it comes after it
comes_first : (x y : Prefix) → is_lt (prefix_cmp y x) ≡ false → (y ≡ x → ⊥) → prefix_cmp x y ≡ Less
comes_first x y late other = elim (prefix_cmp y x) as (λ o. prefix_cmp y x ≡ o → prefix_cmp x y ≡ Less) [
  | Less ↦ λ e. absurd (false≢true (sym late ∙ ap is_lt e))
  | Equal ↦ λ e. absurd (other (prefix_exact y x e))
  | Greater ↦ λ e. prefix_total.antisymm x y ∙ ap ordering_reverse e
] refl

same_from : (a b : Bool) → (a ≡ true → b ≡ true) → (b ≡ true → a ≡ true) → a ≡ b
same_from true b f g = sym (f refl)
same_from false true f g = g refl
same_from false false f g = refl

or_left : (a b : Bool) → a ≡ true → (a || b) ≡ true
or_left a b e = ap (λ c. c || b) e

or_right : (a b : Bool) → b ≡ true → (a || b) ≡ true
or_right true b e = refl
or_right false b e = e

no_choice : {A : Type 0} (b : Bool) (x : A) → cond b x x ≡ x
no_choice true x = refl
no_choice false x = refl

alike : (p : Prefix → Bool) (q x : Prefix) → prefix_cmp q x ≡ Equal → p x ≡ p q
alike p q x same = ap p (sym (prefix_exact q x same))

-- two tests that agree at each key leave the same entries
same_where : (a b : Prefix → Bool) (es : List (Prefix × ℕ)) → T (is_sorted prefix_cmp es) →
    ((q : Prefix) → IsTrue (is_some (find prefix_cmp q es)) → a q ≡ b q) →
    where_key prefix_cmp a es ≡ where_key prefix_cmp b es
same_where a b es h agree =
    same_entries prefix_cmp prefix_total prefix_exact _ _ (is_sorted-where_key prefix_cmp a es h)
    (is_sorted-where_key prefix_cmp b es h)
    (λ q. find-where_key prefix_cmp a q (alike a q) es
    ∙ elim (find prefix_cmp q es) as (λ o. find prefix_cmp q es ≡ o → cond (a q) o None ≡ cond (b q) o None) [
      | None ↦ λ e. no_choice (a q) None ∙ sym (no_choice (b q) None)
      | Some v ↦ λ e. ap (λ c. cond c (Some v) None) (agree q (ap is_some e))
    ] refl
    ∙ sym (find-where_key prefix_cmp b q (alike b q) es))

none_pass : (es : List (Prefix × ℕ)) → where_key prefix_cmp (λ q. false) es ≡ []
none_pass [] = refl
none_pass (e ∷ es) = none_pass es

all_pass : (es : List (Prefix × ℕ)) → where_key prefix_cmp (λ q. true) es ≡ es
all_pass [] = refl
all_pass (e ∷ es) = ap (λ l. e ∷ l) (all_pass es)

none_earlier : (a : Prefix → Bool) (y : Prefix) (es : List (Prefix × ℕ)) →
    ((x : Prefix) → a x ≡ true → prefix_cmp x y ≡ Less) → T (below_all prefix_cmp y es) → where_key prefix_cmp a es ≡ []
none_earlier a y [] early h = refl
none_earlier a y (e ∷ es) early h =
    let later : prefix_cmp y e.0 ≡ Less = less_of _ (first (is_lt (prefix_cmp y e.0)) (below_all prefix_cmp y es) h) in
    let rest = none_earlier a y es early (second (is_lt (prefix_cmp y e.0)) (below_all prefix_cmp y es) h) in
    elim (a e.0) as (λ b. a e.0 ≡ b → cond b (e ∷ where_key prefix_cmp a es) (where_key prefix_cmp a es) ≡ []) [
      | true ↦ λ is. absurd (false≢true (ap is_lt (sym (tied_itself prefix_total y)
          ∙ prefix_total.trans y e.0 y later (early e.0 is))))
      | false ↦ λ _. rest
    ] refl

-- where all that pass one test come before all that pass another, those that pass either are the first ones and then
-- the others
parted : (a b : Prefix → Bool) (es : List (Prefix × ℕ)) →
    ((x y : Prefix) → a x ≡ true → b y ≡ true → prefix_cmp x y ≡ Less) → T (is_sorted prefix_cmp es)
    → where_key prefix_cmp (λ q. a q || b q) es ≡ where_key prefix_cmp a es ++ where_key prefix_cmp b es
parted a b [] apart h = refl
parted a b (e ∷ es) apart h =
    let rest = parted a b es apart (second (below_all prefix_cmp e.0 es) (is_sorted prefix_cmp es) h) in
    let either = where_key prefix_cmp (λ q. a q || b q) es in
    let one = where_key prefix_cmp a es in
    let other = where_key prefix_cmp b es in
    elim (a e.0) as (λ c. a e.0 ≡ c → cond (c || b e.0) (e ∷ either) either ≡ cond c (e ∷ one) one
    ++ cond (b e.0) (e ∷ other) other) [
      | true ↦ λ is. elim (b e.0) as (λ c. b e.0 ≡ c → e ∷ either ≡ e ∷ (one ++ cond c (e ∷ other) other)) [
        | true ↦ λ also. absurd (false≢true (ap is_lt (sym (tied_itself prefix_total e.0) ∙ apart e.0 e.0 is also)))
        | false ↦ λ _. ap (λ l. e ∷ l) rest
      ] refl
      | false ↦ λ _. elim (b e.0) as (λ c. b e.0 ≡ c → cond c (e ∷ either) either ≡ one ++ cond c (e ∷ other) other) [
        | true ↦ λ is.
            let none = none_earlier a e.0 es (λ x early. apart x e.0 early is)
            (first (below_all prefix_cmp e.0 es) (is_sorted prefix_cmp es) h) in
            ap (λ l. e ∷ l) rest ∙ ap (λ l. e ∷ (l ++ other)) none ∙ ap (λ l. l ++ e ∷ other) (sym none)
        | false ↦ λ _. rest
      ] refl
    ] refl

sorted : (ns : List Node) → T (is_sorted prefix_cmp (fin.entries (places_in ns)))
sorted ns = fin.entries_sorted (places_in ns)

pub found : (ns : List Node) (q : Prefix) → find prefix_cmp q (fin.entries (places_in ns))
    ≡ find prefix_cmp q (node_places ns)
found ns q = sym (fin.get-entries (places_in ns) q) ∙ get_of_nodes ns q

-- the node of a key
node_with : (ns : List Node) (q : Prefix) → IsTrue (is_some (find prefix_cmp q (fin.entries (places_in ns)))) → (j : ℕ)
    × (j < length ns) × (prefix_at ns j ≡ q) × IsTrue (is_some (place_at ns j))
node_with ns q key = node_of ns q (ap is_some (sym (found ns q)) ∙ key)

-- nothing lies below no node
pub none_below : (ns : List Node) → entries_below ns None ≡ []
none_below ns = none_pass (fin.entries (places_in ns))

-- all lies below a node that covers each node
pub all_below : (ns : List Node) (at : Option NodeId) →
    ((j : ℕ) → j < length ns → is_in ns at (prefix_at ns j) ≡ true) → entries_below ns at ≡ fin.entries (places_in ns)
all_below ns at all =
    same_where (is_in ns at) (λ q. true) (fin.entries (places_in ns)) (sorted ns) (λ q key. let w =
    node_with ns q key in subst (λ p. is_in ns at p ≡ true) w.2 (all w.0 w.1))
    ∙ all_pass (fin.entries (places_in ns))

one_found : (p q : Prefix) (v : Option ℕ) →
    find prefix_cmp q (entry_or_not p v []) ≡ cond (eq_by_cmp prefix_cmp q p) v None
one_found p q None = sym (no_choice (eq_by_cmp prefix_cmp q p) None)
one_found p q (Some v) = refl

one_sorted : (p : Prefix) (v : Option ℕ) → T (is_sorted prefix_cmp (entry_or_not p v []))
one_sorted p None = tt
one_sorted p (Some v) = tt

-- how many bits a longer prefix can have, and one more
abbrev pub bits_left : List Node → Option NodeId → ℕ
bits_left ns None = 0
bits_left ns (Some at) = 33 - (prefix_at ns at.0).len

module _ (ns : List Node) (t : IsTrie ns) (at : NodeId) (here : at.0 < length ns) where
  -- a child, if there is one, is a node
  pub child_here : (upper : Bool) → IfSome (child_at ns upper at.0) (λ k. k.0 < length ns)
  child_here upper = elim (child_at ns upper at.0) as (λ o. child_at ns upper at.0 ≡ o →
      IfSome o (λ k. k.0 < length ns)) [
        | None ↦ λ _. tt
        | Some k ↦ λ is. (t.below at.0 upper k here is).in_range
      ] refl

  pub child_nearer : (upper : Bool) → bits_left ns (child_at ns upper at.0) < bits_left ns (Some at)
  child_nearer upper =
      let block = (t.blocks at.0 here).0 in
      elim (child_at ns upper at.0) as (λ o. child_at ns upper at.0 ≡ o → bits_left ns o < bits_left ns (Some at)) [
        | None ↦ λ _. omega (arith, block)
        | Some k ↦ λ is. let below = t.below at.0 upper k here is in
            omega (arith, block, below.under.longer, (t.blocks k.0 below.in_range).0)
      ] refl

  in_half : (upper : Bool) (q : Prefix) → is_in ns (child_at ns upper at.0) q ≡ true →
      IsUnder (prefix_at ns at.0) upper q × ((prefix_at ns at.0).len < 32)
  in_half upper q h = elim (child_at ns upper at.0) as (λ o. child_at ns upper at.0 ≡ o → is_in ns o q ≡ true →
      IsUnder (prefix_at ns at.0) upper q × ((prefix_at ns at.0).len < 32)) [
        | None ↦ λ _ e. absurd (false≢true e)
        | Some k ↦ λ is e.
            let below = t.below at.0 upper k here is in (
              under_further (prefix_at ns at.0) upper (prefix_at ns k.0) q below.under
                  (is_covered (prefix_at ns k.0) q e),
              omega (arith, below.under.longer, (t.blocks k.0 below.in_range).0),
            )
      ] refl h

  from_half : (upper : Bool) (j : ℕ) → j < length ns → IsUnder (prefix_at ns at.0) upper (prefix_at ns j) →
      is_in ns (child_at ns upper at.0) (prefix_at ns j) ≡ true
  from_half upper j lt under = elim (child_at ns upper at.0) as (λ o. child_at ns upper at.0 ≡ o →
      is_in ns o (prefix_at ns j) ≡ true) [
        | None ↦ λ is. absurd (t.empty at.0 j upper here lt is under)
        | Some k ↦ λ is. covered (prefix_at ns k.0) (prefix_at ns j) ((t.below at.0 upper k here is).covers j lt under)
      ] refl

  abbrev is_own : Prefix → Bool
  is_own q = eq_by_cmp prefix_cmp q (prefix_at ns at.0)

  abbrev is_further : Prefix → Bool
  is_further q = is_in ns (child_at ns false at.0) q || is_in ns (child_at ns true at.0) q

  further : (q : Prefix) → is_further q ≡ true → Covers (prefix_at ns at.0) q × ((prefix_at ns at.0).len < q.len)
  further q h = elim (or_cases (is_in ns (child_at ns false at.0) q) (is_in ns (child_at ns true at.0) q) h) as (λ _.
      Covers (prefix_at ns at.0) q × ((prefix_at ns at.0).len < q.len)) [
        | inl low ↦ ((in_half false q low).0.covers, (in_half false q low).0.longer)
        | inr high ↦ ((in_half true q high).0.covers, (in_half true q high).0.longer)
      ]

  -- a node that this one covers is this one, or lies in a half
  part_of : (j : ℕ) → j < length ns → Covers (prefix_at ns at.0) (prefix_at ns j) →
      (is_own (prefix_at ns j) || is_further (prefix_at ns j)) ≡ true
  part_of j lt h =
      let q = prefix_at ns j in
      elim (cases_lt (prefix_at ns at.0).len (prefix_at ns j).len) as (λ _.
      (is_own (prefix_at ns j) || is_further (prefix_at ns j)) ≡ true) [
        | inl longer ↦ elim (bit_at (prefix_at ns j).addr (prefix_at ns at.0).len) as (λ b.
            bit_at (prefix_at ns j).addr (prefix_at ns at.0).len ≡ b →
            (is_own (prefix_at ns j) || is_further (prefix_at ns j)) ≡ true) [
              | true ↦ λ e. or_right _ _ (or_right _ _ (from_half true j lt
                  (record { longer = longer; covers = h; half = e })))
              | false ↦ λ e. or_right _ _ (or_left _ _ (from_half false j lt
                  (record { longer = longer; covers = h; half = e })))
            ] refl
        | inr le ↦ or_left _ _ (same_key (prefix_at ns j) (prefix_at ns at.0)
            (sym (one_prefix (prefix_at ns at.0) (prefix_at ns j) (t.blocks at.0 here) (t.blocks j lt) h le)))
      ]

  whole_of : (q : Prefix) → (is_own q || is_further q) ≡ true → Covers (prefix_at ns at.0) q
  whole_of q h = elim (or_cases (is_own q) (is_further q) h) as (λ _. Covers (prefix_at ns at.0) q) [
    | inl own ↦ subst (Covers (prefix_at ns at.0)) (sym (equal_keys q (prefix_at ns at.0) own))
        (covers_itself (prefix_at ns at.0))
    | inr more ↦ (further q more).0
  ]

  agree : (q : Prefix) → IsTrue (is_some (find prefix_cmp q (fin.entries (places_in ns)))) →
      is_in ns (Some at) q ≡ (is_own q || is_further q)
  agree q key =
      let w = node_with ns q key in
      same_from _ _
      (λ h. subst (λ x. (is_own x || is_further x) ≡ true) w.2
      (part_of w.0 w.1 (subst (Covers (prefix_at ns at.0)) (sym w.2) (is_covered (prefix_at ns at.0) q h))))
      (λ h. covered (prefix_at ns at.0) q (whole_of q h))

  own_first : (x y : Prefix) → is_own x ≡ true → is_further y ≡ true → prefix_cmp x y ≡ Less
  own_first x y own more =
      let same = equal_keys x (prefix_at ns at.0) own in
      let past = further y more in
      subst (λ z. prefix_cmp z y ≡ Less) (sym same)
      (comes_first (prefix_at ns at.0) y (covered_not_before (prefix_at ns at.0) y (t.blocks at.0 here) past.0)
      (λ e. let len : y.len ≡ (prefix_at ns at.0).len = ap (λ z. z.len) e in omega (arith, past.1)))

  low_first : (x y : Prefix) → is_in ns (child_at ns false at.0) x ≡ true → is_in ns (child_at ns true at.0) y ≡ true →
      prefix_cmp x y ≡ Less
  low_first x y low high =
      let under = in_half false x low in
      let over = in_half true y high in
      comes_first x y (upper_not_before (prefix_at ns at.0) x y under.1 under.0 over.0)
      (λ e. false≢true (sym under.0.half ∙ ap (λ z. bit_at z.addr (prefix_at ns at.0).len) (sym e) ∙ over.0.half))

  own : where_key prefix_cmp is_own (fin.entries (places_in ns)) ≡ entry_or_not (prefix_at ns at.0)
      (place_at ns at.0) []
  own =
      same_entries prefix_cmp prefix_total prefix_exact _ _ (is_sorted-where_key prefix_cmp is_own
      (fin.entries (places_in ns)) (sorted ns)) (one_sorted (prefix_at ns at.0) (place_at ns at.0))
      (λ q. find-where_key prefix_cmp is_own q (alike is_own q) (fin.entries (places_in ns))
      ∙ elim (is_own q) as (λ b. is_own q ≡ b → cond b (find prefix_cmp q (fin.entries (places_in ns))) None
      ≡ cond b (place_at ns at.0) None) [
        | true ↦ λ e. found ns q ∙ find_at_node ns t q at.0 (here, sym (equal_keys q (prefix_at ns at.0) e))
        | false ↦ λ _. refl
      ] refl
      ∙ sym (one_found (prefix_at ns at.0) q (place_at ns at.0)))

  pub halves : entries_below ns (Some at) ≡ entry_or_not (prefix_at ns at.0) (place_at ns at.0) []
      ++ (entries_below ns (child_at ns false at.0) ++ entries_below ns (child_at ns true at.0))
  halves =
      same_where (is_in ns (Some at)) (λ q. is_own q || is_further q) (fin.entries (places_in ns)) (sorted ns) agree
      ∙ parted is_own is_further (fin.entries (places_in ns)) own_first (sorted ns)
      ∙ ap (λ l. l ++ where_key prefix_cmp is_further (fin.entries (places_in ns))) own
      ∙ ap (λ l. entry_or_not (prefix_at ns at.0) (place_at ns at.0) [] ++ l)
      (parted (is_in ns (child_at ns false at.0)) (is_in ns (child_at ns true at.0))
      (fin.entries (places_in ns)) low_first (sorted ns))
