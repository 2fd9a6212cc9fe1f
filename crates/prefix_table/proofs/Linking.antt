-- A node that is put at the end of a list and linked from another.
use Rattle.std.proofs.Common.{◌≡◌, ℕ, zero, suc, ◌+◌, ◌<◌, Bool, true, false, List, [], ◌∷◌, ◌++◌, length, map, get_or, set, Option, Some, None, refl, sym, ap, subst, ◌∙◌, arith}
use Rattle.std.proofs.lemmas.List.{map-append, length-map, get_or_append_left, get_or_push, length_push}
use Rattle.std.specs.Option.{IfSome, IfNone}
use Rattle.net_prefix.specs.Prefix.{Prefix}
use Rattle.prefix_table.specs.declared.node.Node.{Node}
use Rattle.prefix_table.specs.declared.node.NodeId.{NodeId}
use Rattle.prefix_table.specs.Trie.{bit_at, child_of, prefix_at, child_at, IsTrie, IsGap, linked, with_child, prefixes, node_places, entry_or_not, whole}
use Rattle.prefix_table.proofs.Splicing.{IsSpliced, spliced_trie}

pub set_linked : (ns : List Node) (i : ℕ) (u : Bool) (c : NodeId) (n : Node) → i < length ns → n ≡ get_or ns i n →
    set ns i (with_child u c n) ≡ linked ns i u c
set_linked [] i u c n lt is = absurd (omega arith)
set_linked (x ∷ xs) zero u c n lt is = ap (λ m. with_child u c m ∷ xs) is
set_linked (x ∷ xs) (suc i) u c n lt is = ap (λ l. x ∷ l) (set_linked xs i u c n (omega arith) is)

length-linked : (ns : List Node) (i : ℕ) (u : Bool) (c : NodeId) → length (linked ns i u c) ≡ length ns
length-linked [] i u c = refl
length-linked (x ∷ xs) zero u c = refl
length-linked (x ∷ xs) (suc i) u c = ap suc (length-linked xs i u c)

same_key : (u : Bool) (c : NodeId) (n : Node) → (with_child u c n).prefix ≡ n.prefix
same_key true c n = refl
same_key false c n = refl

same_entry : (u : Bool) (c : NodeId) (n : Node) (es : List (Prefix × ℕ)) →
    entry_or_not (with_child u c n).prefix (with_child u c n).place es ≡ entry_or_not n.prefix n.place es
same_entry true c n es = refl
same_entry false c n es = refl

prefixes-linked : (ns : List Node) (i : ℕ) (u : Bool) (c : NodeId) → prefixes (linked ns i u c) ≡ prefixes ns
prefixes-linked [] i u c = refl
prefixes-linked (x ∷ xs) zero u c = ap (λ p. p ∷ prefixes xs) (same_key u c x)
prefixes-linked (x ∷ xs) (suc i) u c = ap (λ l. x.prefix ∷ l) (prefixes-linked xs i u c)

entries-linked : (ns : List Node) (i : ℕ) (u : Bool) (c : NodeId) → node_places (linked ns i u c) ≡ node_places ns
entries-linked [] i u c = refl
entries-linked (x ∷ xs) zero u c = same_entry u c x (node_places xs)
entries-linked (x ∷ xs) (suc i) u c = ap (entry_or_not x.prefix x.place) (entries-linked xs i u c)

entries-push : (ns : List Node) (x : Node) → x.place ≡ None → node_places (ns ++ x ∷ []) ≡ node_places ns
entries-push [] x none = ap (λ v. entry_or_not x.prefix v []) none
entries-push (n ∷ ns) x none = ap (entry_or_not n.prefix n.place) (entries-push ns x none)

other_child : (u v : Bool) (c : NodeId) (n : Node) → (v ≡ u → ⊥) → child_of v (with_child u c n) ≡ child_of v n
other_child true true c n other = absurd (other refl)
other_child true false c n other = refl
other_child false true c n other = refl
other_child false false c n other = absurd (other refl)

this_child : (u : Bool) (c : NodeId) (n : Node) → child_of u (with_child u c n) ≡ Some c
this_child true c n = refl
this_child false c n = refl

child_kept : (ns : List Node) (i j : ℕ) (u v : Bool) (c : NodeId) → (j ≡ i → v ≡ u → ⊥) →
    child_at (linked ns i u c) v j ≡ child_at ns v j
child_kept [] i j u v c other = refl
child_kept (x ∷ xs) zero zero u v c other = other_child u v c x (other refl)
child_kept (x ∷ xs) zero (suc j) u v c other = refl
child_kept (x ∷ xs) (suc i) zero u v c other = refl
child_kept (x ∷ xs) (suc i) (suc j) u v c other = child_kept xs i j u v c (λ e. other (ap suc e))

child_linked : (ns : List Node) (i : ℕ) (u : Bool) (c : NodeId) → i < length ns →
    child_at (linked ns i u c) u i ≡ Some c
child_linked [] i u c lt = absurd (omega arith)
child_linked (x ∷ xs) zero u c lt = this_child u c x
child_linked (x ∷ xs) (suc i) u c lt = child_linked xs i u c (omega arith)

-- a field of the nodes of before, and of the one at the end
field_kept : {X : Type 0} (f : Node → X) (ns : List Node) (x : Node) (d : X) (j : ℕ) → j < length ns →
    get_or (map f (ns ++ x ∷ [])) j d ≡ get_or (map f ns) j d
field_kept f ns x d j lt = ap (λ l. get_or l j d) (map-append f ns (x ∷ []))
    ∙ get_or_append_left (map f ns) (f x ∷ []) d j (omega (arith, length-map ns f))

field_added : {X : Type 0} (f : Node → X) (ns : List Node) (x : Node) (d : X) →
    get_or (map f (ns ++ x ∷ [])) (length ns) d ≡ f x
field_added f ns x d = ap (λ l. get_or l (length ns) d) (map-append f ns (x ∷ []))
    ∙ get_or_push (map f ns) (f x) d (length ns) (length-map ns f)

-- the child that the new node has in each half
abbrev pub IsOnSide : List Node → Option NodeId → ℕ → Bool → Option NodeId → Type 0
IsOnSide ns below len u child =
    IfSome child (λ k. (below ≡ Some k) × (bit_at (prefix_at ns k.0).addr len ≡ u))
    × IfNone child ((k : NodeId) → below ≡ Some k → bit_at (prefix_at ns k.0).addr len ≡ u → ⊥)

module _ (ns : List Node) (i : ℕ) (b : Bool) (x : Node) (here : i < length ns)
    (low : IsOnSide ns (child_at ns b i) x.prefix.len false x.low)
    (high : IsOnSide ns (child_at ns b i) x.prefix.len true x.high) where
  on_side : (u : Bool) → IsOnSide ns (child_at ns b i) x.prefix.len u (child_of u x)
  on_side true = high
  on_side false = low

  not_new : (u : Bool) → length ns ≡ i → u ≡ b → ⊥
  not_new u e f = omega (arith, e)

  child_added : (u : Bool) →
      child_at (linked (ns ++ x ∷ []) i b (record { 0 = length ns })) u (length ns) ≡ child_of u x
  child_added u = child_kept (ns ++ x ∷ []) i (length ns) b u (record { 0 = length ns }) (not_new u)
      ∙ field_added (child_of u) ns x None

  pub is_spliced : IsSpliced ns (linked (ns ++ x ∷ []) i b (record { 0 = length ns })) i b x.prefix
  is_spliced = record {
    long = length-linked (ns ++ x ∷ []) i b (record { 0 = length ns }) ∙ length_push ns x;
    old = λ j lt. ap (λ l. get_or l j whole) (prefixes-linked (ns ++ x ∷ []) i b (record { 0 = length ns }))
        ∙ field_kept (λ n. n.prefix) ns x whole j lt;
    added = ap (λ l. get_or l (length ns) whole) (prefixes-linked (ns ++ x ∷ []) i b (record { 0 = length ns }))
        ∙ field_added (λ n. n.prefix) ns x whole;
    kept = λ j u lt other. child_kept (ns ++ x ∷ []) i j b u (record { 0 = length ns }) other
        ∙ field_kept (child_of u) ns x None j lt;
    child = child_linked (ns ++ x ∷ []) i b (record { 0 = length ns }) (omega (arith, length_push ns x));
    side = λ u k e. subst (λ o. IfSome o (λ k. (child_at ns b i ≡ Some k)
        × (bit_at (prefix_at ns k.0).addr x.prefix.len ≡ u))) (sym (child_added u) ∙ e) (on_side u).0;
    no_side = λ u k e. subst (λ o. IfNone o ((k : NodeId) → child_at ns b i ≡ Some k →
        bit_at (prefix_at ns k.0).addr x.prefix.len ≡ u → ⊥)) (sym (child_added u) ∙ e) (on_side u).1 k;
  }

  pub linked_trie : IsTrie ns → IsGap ns (prefix_at ns i) b x.prefix →
      IsTrie (linked (ns ++ x ∷ []) i b (record { 0 = length ns }))
  linked_trie t gap = spliced_trie ns _ i b x.prefix t here gap is_spliced

  pub linked_entries : x.place ≡ None →
      node_places (linked (ns ++ x ∷ []) i b (record { 0 = length ns })) ≡ node_places ns
  linked_entries none = entries-linked (ns ++ x ∷ []) i b (record { 0 = length ns }) ∙ entries-push ns x none

  pub linked_prefixes : prefixes (linked (ns ++ x ∷ []) i b (record { 0 = length ns })) ≡ prefixes ns ++ x.prefix ∷ []
  linked_prefixes = prefixes-linked (ns ++ x ∷ []) i b (record { 0 = length ns })
      ∙ map-append (λ n. n.prefix) ns (x ∷ [])

pub below_in_range : (ns xs ys : List Node) (i len : ℕ) (b : Bool) (c : Prefix) (o : Option NodeId) → IsTrie ns →
    i < length ns → IsGap ns (prefix_at ns i) b c → xs ≡ ns → ys ≡ ns → len ≡ c.len → o ≡ child_at ys b i
    → IfSome o (λ k. (k.0 < length xs) × (len < 32))
below_in_range ns xs ys i len b c None t here gap e f l is = tt
below_in_range ns xs ys i len b c (Some k) t here gap e f l is =
    let below = t.below i b k here (ap (λ zs. child_at zs b i) (sym f) ∙ sym is) in
    let size : length xs ≡ length ns = ap length e in (
      omega (arith, below.in_range),
      omega (
        arith,
        (gap.covers k.0 below.in_range below.under).1,
        (t.blocks k.0 below.in_range).0,
      ),
    )

pub on_side_of : (ns xs : List Node) (o p : Option NodeId) (len n : ℕ) (u : Bool) (child : Option NodeId) →
    xs ≡ ns → o ≡ p → len ≡ n
    → IfSome child (λ k. (o ≡ Some k) × (bit_at (prefix_at xs k.0).addr len ≡ u)) →
    IfNone child ((k : NodeId) → o ≡ Some k → bit_at (prefix_at xs k.0).addr len ≡ u → ⊥) → IsOnSide ns p n u child
on_side_of ns xs o p len n u child e f l some none =
    subst (λ zs. IsOnSide zs p n u child) e
    (subst (λ q. IsOnSide xs q n u child) f (subst (λ m. IsOnSide xs o m u child) l (some, none)))

-- the node that was put at the end has its prefix
pub last_prefix : (ns new : List Node) (c : Prefix) → prefixes new ≡ prefixes ns ++ c ∷ [] → (length ns < length new)
    × (prefix_at new (length ns) ≡ c)
last_prefix ns new c is =
    let size : length new ≡ length ns + 1 = sym (length-map new (λ n. n.prefix)) ∙ ap length is
    ∙ length_push (prefixes ns) c ∙ ap (λ n. n + 1) (length-map ns (λ n. n.prefix)) in (
      omega arith,
      ap (λ l. get_or l (length ns) whole) is
          ∙ get_or_push (prefixes ns) c whole (length ns) (length-map ns (λ n. n.prefix)),
    )
