-- A trie with one more node, put between a node and what lies in one of its halves.
use Rattle.std.proofs.Common.{◌≡◌, ℕ, ◌+◌, ◌<◌, Bool, true, false, List, length, Option, Some, None, refl, sym, ap, subst, ◌∙◌, inl, inr, ◌⊎◌, arith}
use Rattle.std.proofs.lemmas.Bool.{cases_lt, cases_eq, false≢true}
use Rattle.net_prefix.specs.Prefix.{Prefix, MakePrefix, Covers}
use Rattle.prefix_table.specs.declared.node.Node.{Node}
use Rattle.prefix_table.specs.declared.node.NodeId.{NodeId}
use Rattle.prefix_table.specs.Trie.{whole, bit_at, IsUnder, prefix_at, child_at, IsBelow, IsTrie, IsGap}
use Rattle.prefix_table.proofs.Prefixes.{covers_itself, covers_trans, comparable, under_further, under_back, one_prefix}

pub record IsSpliced (ns new : List Node) (i : ℕ) (b : Bool) (c : Prefix) : Type 0 where
  pub long : length new ≡ length ns + 1
  pub old : (j : ℕ) → j < length ns → prefix_at new j ≡ prefix_at ns j
  pub added : prefix_at new (length ns) ≡ c
  pub kept : (j : ℕ) (u : Bool) → j < length ns → (j ≡ i → u ≡ b → ⊥) → child_at new u j ≡ child_at ns u j
  pub child : child_at new b i ≡ Some (record { 0 = length ns })
  pub side : (u : Bool) (k : NodeId) → child_at new u (length ns) ≡ Some k → (child_at ns b i ≡ Some k)
      × (bit_at (prefix_at ns k.0).addr c.len ≡ u)
  pub no_side : (u : Bool) (k : NodeId) → child_at new u (length ns) ≡ None → child_at ns b i ≡ Some k →
      bit_at (prefix_at ns k.0).addr c.len ≡ u → ⊥

some_not_none : {X : Type 0} {x : X} → Some x ≡ None → ⊥
some_not_none e = cc

bool_cases : (u b : Bool) → (u ≡ b) ⊎ (u ≡ b → ⊥)
bool_cases true true = inl refl
bool_cases true false = inr (λ e. false≢true (sym e))
bool_cases false true = inr (λ e. false≢true e)
bool_cases false false = inl refl

module _ (ns new : List Node) (i : ℕ) (b : Bool) (c : Prefix) (t : IsTrie ns) (here : i < length ns)
    (gap : IsGap ns (prefix_at ns i) b c) (s : IsSpliced ns new i b c) where
  -- another half that has c has the node of i
  outer : (k : ℕ) (u : Bool) → k < length ns → (k ≡ i → u ≡ b → ⊥) → IsUnder (prefix_at ns k) u c →
      IsUnder (prefix_at ns k) u (prefix_at ns i)
  outer k u in_range other h =
      elim (cases_lt (prefix_at ns k).len (prefix_at ns i).len) as (λ _. IsUnder (prefix_at ns k) u (prefix_at ns i)) [
        | inl lt ↦ under_back (prefix_at ns k) u (prefix_at ns i) c h gap.under.covers lt
        | inr le ↦ elim (cases_lt (prefix_at ns i).len (prefix_at ns k).len) as (λ _.
            IsUnder (prefix_at ns k) u (prefix_at ns i)) [
              | inl lt ↦
                  let inside = under_back (prefix_at ns i) b (prefix_at ns k) c gap.under h.covers lt in
                  let shorter = (gap.covers k in_range inside).1 in
                  absurd (omega (arith, shorter, h.longer))
              | inr ge ↦
                  let over : Covers (prefix_at ns k) (prefix_at ns i) =
                  comparable (prefix_at ns k) (prefix_at ns i) c h.covers gap.under.covers (omega arith) in
                  let equal : prefix_at ns k ≡ prefix_at ns i =
                  one_prefix (prefix_at ns k) (prefix_at ns i) (t.blocks k in_range)
                  (t.blocks i here) over (omega arith) in
                  let same : k ≡ i = t.unique k i in_range here equal in
                  absurd (other same (sym h.half ∙ ap (λ p. bit_at c.addr p.len) equal ∙ gap.under.half))
            ]
      ]

  inside_gap : (u : Bool) (j : ℕ) → j < length ns → IsUnder c u (prefix_at ns j) →
      IsUnder (prefix_at ns i) b (prefix_at ns j)
  inside_gap u j in_range h = under_further (prefix_at ns i) b c (prefix_at ns j) gap.under h.covers

  not_itself : (u : Bool) → IsUnder c u c → ⊥
  not_itself u h = omega (arith, h.longer)

  -- an index of before, or the new one
  cases_at : (j : ℕ) → j < length new → ((j < length ns) × (prefix_at new j ≡ prefix_at ns j))
      ⊎ ((j ≡ length ns) × (prefix_at new j ≡ c))
  cases_at j lt = elim (cases_lt j (length ns)) as (λ _. ((j < length ns) × (prefix_at new j ≡ prefix_at ns j))
      ⊎ ((j ≡ length ns) × (prefix_at new j ≡ c))) [
        | inl less ↦ inl (less, s.old j less)
        | inr le ↦ let end : j ≡ length ns = omega (arith, s.long) in inr (end, ap (prefix_at new) end ∙ s.added)
      ]

  -- the link that changed, or another one
  cases_link : (k : ℕ) (u : Bool) → ((k ≡ i) × (u ≡ b)) ⊎ (k ≡ i → u ≡ b → ⊥)
  cases_link k u = elim (cases_eq k i) as (λ _. ((k ≡ i) × (u ≡ b)) ⊎ (k ≡ i → u ≡ b → ⊥)) [
    | inl same ↦ elim (bool_cases u b) as (λ _. ((k ≡ i) × (u ≡ b)) ⊎ (k ≡ i → u ≡ b → ⊥)) [
      | inl e ↦ inl (same, e)
      | inr other ↦ inr (λ _ e. other e)
    ]
    | inr other ↦ inr (λ e _. other e)
  ]

  new_prefixes : (j : ℕ) → j < length new → MakePrefix (prefix_at new j).addr (prefix_at new j).len
  new_prefixes j lt = elim (cases_at j lt) as (λ _. MakePrefix (prefix_at new j).addr (prefix_at new j).len) [
    | inl at ↦ subst (λ p. MakePrefix p.addr p.len) (sym at.1) (t.blocks j at.0)
    | inr at ↦ subst (λ p. MakePrefix p.addr p.len) (sym at.1) gap.block
  ]

  not_there : (j : ℕ) → j < length ns → prefix_at ns j ≡ c → ⊥
  not_there j lt e =
      let more = (gap.covers j lt (subst (IsUnder (prefix_at ns i) b) (sym e) gap.under)).1 in
      let same : (prefix_at ns j).len ≡ c.len = ap (λ p. p.len) e in
      omega (arith, more, same)

  new_unique : (j k : ℕ) → j < length new → k < length new → prefix_at new j ≡ prefix_at new k → j ≡ k
  new_unique j k lj lk e = elim (cases_at j lj) as (λ _. j ≡ k) [
    | inl a ↦ elim (cases_at k lk) as (λ _. j ≡ k) [
      | inl d ↦ t.unique j k a.0 d.0 (sym a.1 ∙ e ∙ d.1)
      | inr d ↦ absurd (not_there j a.0 (sym a.1 ∙ e ∙ d.1))
    ]
    | inr a ↦ elim (cases_at k lk) as (λ _. j ≡ k) [
      | inl d ↦ absurd (not_there k d.0 (sym d.1 ∙ sym e ∙ a.1))
      | inr d ↦ a.0 ∙ sym d.0
    ]
  ]

  -- nothing lies in an empty half of the new node
  empty_side : (j : ℕ) (u : Bool) (old : Option NodeId) → child_at ns b i ≡ old → child_at new u (length ns) ≡ None →
      j < length ns → IsUnder c u (prefix_at ns j) → ⊥
  empty_side j u None is none lt h = t.empty i j b here lt is (inside_gap u j lt h)
  empty_side j u (Some k) is none lt h =
      let below = t.below i b k here is in
      let over = below.covers j lt (inside_gap u j lt h) in
      let longer = (gap.covers k.0 below.in_range below.under).1 in
      s.no_side u k none is (under_back c u (prefix_at ns k.0) (prefix_at ns j) h over longer).half

  new_empty : (k j : ℕ) (u : Bool) → k < length new → j < length new → child_at new u k ≡ None →
      IsUnder (prefix_at new k) u (prefix_at new j) → ⊥
  new_empty k j u lk lj none h = elim (cases_at k lk) as (λ _. ⊥) [
    | inl a ↦ elim (cases_link k u) as (λ _. ⊥) [
      | inl link ↦ absurd (some_not_none (sym s.child ∙ ap (λ v. child_at new v i) (sym link.1)
          ∙ ap (child_at new u) (sym link.0) ∙ none))
      | inr other ↦
          let none_before : child_at ns u k ≡ None = sym (s.kept k u a.0 other) ∙ none in
          let from : IsUnder (prefix_at ns k) u (prefix_at new j) = subst (λ p. IsUnder p u (prefix_at new j)) a.1 h in
          elim (cases_at j lj) as (λ _. ⊥) [
            | inl d ↦ t.empty k j u a.0 d.0 none_before (subst (IsUnder (prefix_at ns k) u) d.1 from)
            | inr d ↦ t.empty k i u a.0 here none_before
                (outer k u a.0 other (subst (IsUnder (prefix_at ns k) u) d.1 from))
          ]
    ]
    | inr a ↦
        let from : IsUnder c u (prefix_at new j) = subst (λ p. IsUnder p u (prefix_at new j)) a.1 h in
        let none_there : child_at new u (length ns) ≡ None = ap (child_at new u) (sym a.0) ∙ none in
        elim (cases_at j lj) as (λ _. ⊥) [
          | inl d ↦ empty_side j u (child_at ns b i) refl none_there d.0 (subst (IsUnder c u) d.1 from)
          | inr d ↦ not_itself u (subst (IsUnder c u) d.1 from)
        ]
  ]

  -- what a child of before covers still
  below_kept : (k : ℕ) (u : Bool) (m : NodeId) → k < length ns → (k ≡ i → u ≡ b → ⊥) →
      IsBelow ns (prefix_at ns k) u m.0 → IsBelow new (prefix_at ns k) u m.0
  below_kept k u m lt other below = record {
    in_range = omega (arith, below.in_range, s.long);
    under = subst (IsUnder (prefix_at ns k) u) (sym (s.old m.0 below.in_range)) below.under;
    covers = λ j lj h. subst (λ p. Covers p (prefix_at new j)) (sym (s.old m.0 below.in_range))
        (elim (cases_at j lj) as (λ _. Covers (prefix_at ns m.0) (prefix_at new j)) [
          | inl d ↦ subst (Covers (prefix_at ns m.0)) (sym d.1)
              (below.covers j d.0 (subst (IsUnder (prefix_at ns k) u) d.1 h))
          | inr d ↦ subst (Covers (prefix_at ns m.0)) (sym d.1)
              (covers_trans (prefix_at ns m.0) (prefix_at ns i) c
              (below.covers i here (outer k u lt other (subst (IsUnder (prefix_at ns k) u) d.1 h))) gap.under.covers)
        ]);
  }

  below_link : (m : NodeId) → Some (record { 0 = length ns }) ≡ Some m → IsBelow new (prefix_at ns i) b m.0
  below_link m is =
      let end : length ns ≡ m.0 = cc in
      subst (IsBelow new (prefix_at ns i) b) end (record {
        in_range = omega (arith, s.long);
        under = subst (IsUnder (prefix_at ns i) b) (sym s.added) gap.under;
        covers = λ j lj h. subst (λ p. Covers p (prefix_at new j)) (sym s.added)
            (elim (cases_at j lj) as (λ _. Covers c (prefix_at new j)) [
              | inl d ↦ subst (Covers c) (sym d.1) (gap.covers j d.0 (subst (IsUnder (prefix_at ns i) b) d.1 h)).0
              | inr d ↦ subst (Covers c) (sym d.1) (covers_itself c)
            ]);
      })

  below_new : (u : Bool) (m : NodeId) → child_at new u (length ns) ≡ Some m → IsBelow new c u m.0
  below_new u m is =
      let side = s.side u m is in
      let below = t.below i b m here side.0 in
      let over = gap.covers m.0 below.in_range below.under in
      record {
        in_range = omega (arith, below.in_range, s.long);
        under = subst (IsUnder c u) (sym (s.old m.0 below.in_range))
            (record { longer = over.1; covers = over.0; half = side.1 });
        covers = λ j lj h. subst (λ p. Covers p (prefix_at new j)) (sym (s.old m.0 below.in_range))
            (elim (cases_at j lj) as (λ _. Covers (prefix_at ns m.0) (prefix_at new j)) [
              | inl d ↦ subst (Covers (prefix_at ns m.0)) (sym d.1)
                  (below.covers j d.0 (inside_gap u j d.0 (subst (IsUnder c u) d.1 h)))
              | inr d ↦ absurd (not_itself u (subst (IsUnder c u) d.1 h))
            ]);
      }

  new_below : (k : ℕ) (u : Bool) (m : NodeId) → k < length new → child_at new u k ≡ Some m →
      IsBelow new (prefix_at new k) u m.0
  new_below k u m lk is = elim (cases_at k lk) as (λ _. IsBelow new (prefix_at new k) u m.0) [
    | inl a ↦ subst (λ p. IsBelow new p u m.0) (sym a.1)
        (elim (cases_link k u) as (λ _. IsBelow new (prefix_at ns k) u m.0) [
          | inl link ↦
              let is_new : Some (record { 0 = length ns }) ≡ Some m = sym s.child
              ∙ ap (λ v. child_at new v i) (sym link.1)
              ∙ ap (child_at new u) (sym link.0) ∙ is in
              subst (λ j. IsBelow new (prefix_at ns j) u m.0) (sym link.0)
              (subst (λ v. IsBelow new (prefix_at ns i) v m.0) (sym link.1) (below_link m is_new))
          | inr other ↦ below_kept k u m a.0 other (t.below k u m a.0 (sym (s.kept k u a.0 other) ∙ is))
        ])
    | inr a ↦ subst (λ p. IsBelow new p u m.0) (sym a.1) (below_new u m (ap (child_at new u) (sym a.0) ∙ is))
  ]

  new_covered : (j : ℕ) → j < length new → Covers whole (prefix_at new j)
  new_covered j lt = elim (cases_at j lt) as (λ _. Covers whole (prefix_at new j)) [
    | inl at ↦ subst (Covers whole) (sym at.1) (t.covered j at.0)
    | inr at ↦ subst (Covers whole) (sym at.1)
        (covers_trans whole (prefix_at ns i) c (t.covered i here) gap.under.covers)
  ]

  pub spliced_trie : IsTrie new
  spliced_trie = record {
    blocks = new_prefixes;
    unique = new_unique;
    root = s.old 0 (omega arith) ∙ t.root;
    covered = new_covered;
    empty = new_empty;
    below = new_below;
  }
