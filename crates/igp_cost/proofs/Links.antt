-- Links that are added for each edge.
use Rattle.std.proofs.Common.{◌≡◌, ℕ, ◌+◌, ◌<◌, ◌≤◌, true, false, ltb, List, [], ◌∷◌, ◌++◌, length, get_or, Contains, IsPermutation, refl, sym, ap, ◌∙◌, subst, inl, inr, arith}
use Rattle.std.proofs.lemmas.Bool.{cases_lt}
use Rattle.std.specs.List.Sorted.{IsPartitionPoint}
use Rattle.std.proofs.lemmas.Bool.Decides.{nat_tests}
use Rattle.std.proofs.lemmas.List.{get_or_default, get_or_append_left, get_or_push}
use Rattle.std.proofs.lemmas.List.Elements.{All-push, Contains-push, Contains-push_cases, Contains-append_left}
use Rattle.std.proofs.lemmas.List.Sorted.{All-permutation, Contains-permutation, IsPermutation-sym}
use Rattle.net_prefix.specs.declared.addr.Addr.{Addr}
use Rattle.igp_cost.specs.Limits.{most_nodes}
use Rattle.igp_cost.specs.declared.least_trees.link.Link.{Link}
use Rattle.igp_cost.specs.Metric.{IsMetric}
use Rattle.igp_cost.specs.Walks.{Nodes, Edges, HasEdge}
use Rattle.igp_cost.specs.Labels.{addr_at, IsWithin}
use Rattle.igp_cost.specs.Wired.{HasLink, IsWired, IsRising, IsFound}

-- each link is within the nodes, and is an edge
pub record AreLinks (nodes : Nodes) (edges : Edges) (links : List Link) : Type 0 where
  pub within : IsWithin nodes links
  pub are_edges : (link : Link) → Contains links link →
      HasEdge edges (addr_at nodes link.from) (addr_at nodes link.to) link.metric

-- an edge has its two links
pub record HasLinks (nodes : Nodes) (links : List Link) (e : Addr × Addr × ℕ) : Type 0 where
  pub there : HasLink nodes links e.0 e.1 e.2
  pub back : HasLink nodes links e.1 e.0 e.2

-- so have the edges before a place
abbrev pub HasLinksBefore : Nodes → Edges → List Link → ℕ → Type 0
HasLinksBefore nodes edges links n = (k : ℕ) (e : Addr × Addr × ℕ) → k < n → k < length edges → get_or edges k e ≡ e →
    HasLinks nodes links e

pub are_none : (nodes : Nodes) (edges : Edges) → AreLinks nodes edges []
are_none nodes edges = record {
  within = λ k d lt. absurd (omega arith);
  are_edges = λ link among. absurd (omega (arith, among.1));
}

are_push : (nodes : Nodes) (edges : Edges) (links : List Link) (link : Link) → AreLinks nodes edges links →
    link.from < length nodes → link.to < length nodes → IsMetric link.metric →
    HasEdge edges (addr_at nodes link.from) (addr_at nodes link.to) link.metric →
    AreLinks nodes edges (links ++ link ∷ [])
are_push nodes edges links link are from to metric edge = record {
  within = All-push (λ (l : Link). (l.from < length nodes) × (l.to < length nodes)
      × IsMetric l.metric) links link are.within (from, to, metric);
  are_edges = λ other among. elim (Contains-push_cases links link other among) [
    | inl old ↦ are.are_edges other old
    | inr new ↦ subst (λ (l : Link). HasEdge edges (addr_at nodes l.from) (addr_at nodes l.to) l.metric) new edge
  ];
}

has_push : (nodes : Nodes) (links : List Link) (x : Link) (a b : Addr) (m : ℕ) → HasLink nodes links a b m →
    HasLink nodes (links ++ x ∷ []) a b m
has_push nodes links x a b m h = record {
  link = h.link;
  among = Contains-append_left links (x ∷ []) h.link h.among;
  from = h.from;
  to = h.to;
  metric = h.metric;
}

module _ (nodes : Nodes) (edges : Edges) (links : List Link) (n : ℕ) (a b : Addr) (m : ℕ) (n_in : n < length edges)
    (read : get_or edges n (a, b, m) ≡ (a, b, m)) (metric : IsMetric m) (i j : ℕ) (from : IsFound nodes a i)
    (to : IsFound nodes b j) (are : AreLinks nodes edges links) (has : HasLinksBefore nodes edges links n) where
  abbrev one : List Link
  one = links ++ record { from = i; to = j; metric = m } ∷ []

  abbrev both : List Link
  both = one ++ record { from = j; to = i; metric = m } ∷ []

  there : HasLink nodes both a b m
  there = has_push nodes one _ a b m (record {
    link = record { from = i; to = j; metric = m };
    among = Contains-push links (record { from = i; to = j; metric = m });
    from = from.same;
    to = to.same;
    metric = refl;
  })

  back : HasLink nodes both b a m
  back = record {
    link = record { from = j; to = i; metric = m };
    among = Contains-push one (record { from = j; to = i; metric = m });
    from = to.same;
    to = from.same;
    metric = refl;
  }

  edge : HasEdge edges (addr_at nodes i) (addr_at nodes j) m
  edge = subst (λ x. HasEdge edges x (addr_at nodes j) m) (sym from.same)
      (subst (λ x. HasEdge edges a x m) (sym to.same) (inl (n, n_in, read)))

  swapped : HasEdge edges (addr_at nodes j) (addr_at nodes i) m
  swapped = elim edge [ inl e ↦ inr e | inr e ↦ inl e ]

  pub are_both : AreLinks nodes edges both
  are_both = are_push nodes edges one (record { from = j; to = i; metric = m })
      (are_push nodes edges links (record { from = i; to = j; metric = m }) are from.within to.within metric edge)
      to.within from.within metric swapped

  pub has_both : HasLinksBefore nodes edges both (n + 1)
  has_both k e lt lt' at = elim (cases_lt k n) [
    | inl old ↦ let h = has k e old lt' at in
        record {
          there = has_push nodes one _ e.0 e.1 e.2 (has_push nodes links _ e.0 e.1 e.2 h.there);
          back = has_push nodes one _ e.1 e.0 e.2 (has_push nodes links _ e.1 e.0 e.2 h.back);
        }
    | inr here ↦
        let same : k ≡ n = omega arith in
        let is : (a, b, m) ≡ e = sym read ∙ get_or_default edges n (a, b, m) e n_in
        ∙ ap (λ p. get_or edges p e) (sym same) ∙ at in
        subst (λ (e : Addr × Addr × ℕ). HasLinks nodes both e) is (record { there = there; back = back })
  ]

-- once each edge has its links, the graph is wired
pub wired_all : (nodes : Nodes) (edges : Edges) (links : List Link) (n : ℕ) → n ≡ length edges →
    length nodes ≤ most_nodes → IsRising nodes → AreLinks nodes edges links → HasLinksBefore nodes edges links n →
    IsWired nodes edges links
wired_all nodes edges links n all size rising are has = record {
  size = size;
  rising = rising;
  within = are.within;
  are_edges = are.are_edges;
  has_links = λ a b m edge. elim edge [
    | inl e ↦ (has e.0 (a, b, m) (omega (arith, e.1)) e.1 e.2).there
    | inr e ↦ (has e.0 (b, a, m) (omega (arith, e.1)) e.1 e.2).back
  ];
}

-- the order of the links does not matter
pub wired_moved : (nodes : Nodes) (edges : Edges) (xs ys : List Link) → IsPermutation xs ys → IsWired nodes edges xs →
    IsWired nodes edges ys
wired_moved nodes edges xs ys moved wired = record {
  size = wired.size;
  rising = wired.rising;
  within = All-permutation (λ (l : Link). (l.from < length nodes) × (l.to < length nodes)
      × IsMetric l.metric) xs ys moved wired.within;
  are_edges = λ link among.
      wired.are_edges link (Contains-permutation ys xs link (IsPermutation-sym xs ys moved) among);
  has_links = λ a b m edge. let h = wired.has_links a b m edge in
      record {
        link = h.link;
        among = Contains-permutation xs ys h.link moved h.among;
        from = h.from;
        to = h.to;
        metric = h.metric;
      };
}

-- a list with one more start
pub parted_push : (P : ℕ → ℕ → Type 0) (starts : List ℕ) (n p : ℕ) → length starts ≡ n →
    ((v : ℕ) → v < n → P v (get_or starts v 0)) → P n p → (v : ℕ) → v < n + 1 → P v (get_or (starts ++ p ∷ []) v 0)
parted_push P starts n p same old new v lt = elim (cases_lt v n) [
  | inl before ↦ subst (P v) (sym (get_or_append_left starts (p ∷ []) 0 v (omega (arith, same)))) (old v before)
  | inr after ↦
      let at : n ≡ v = omega arith in
      subst (λ k. P k (get_or (starts ++ p ∷ []) k 0)) at (subst (P n) (sym (get_or_push starts p 0 n same)) new)
]

-- the links before a place leave earlier nodes, and those from it on do not
abbrev pub Parts : List Link → ℕ → ℕ → Type 0
Parts links v p = IsPartitionPoint (λ (y : Link). ltb y.from v ≡ true) (λ (y : Link). ltb y.from v ≡ false) links p

-- so a link from a node stands between the node's start and the next one's
pub each_from : (links : List Link) (v p q k : ℕ) (link : Link) → Parts links v p → Parts links (v + 1) q →
    k < length links → get_or links k link ≡ link → link.from ≡ v → (p ≤ k) × (k < q)
each_from links v p q k link here next lt is from =
    let number = ap (λ (l : Link). l.from) is in
    let low : p ≤ k = elim (cases_lt k p) as (λ _. p ≤ k) [
      | inl before ↦ let test = here.0 k link (omega arith) before in let past : (get_or links k link).from < v =
          grind (arith, nat_tests, test) in absurd (omega (arith, past, number, from))
      | inr after ↦ after
    ] in
    let high : k < q = elim (cases_lt k q) as (λ _. k < q) [
      | inl before ↦ before
      | inr after ↦ let test = next.1 k link after lt in let past : v + 1 ≤ (get_or links k link).from =
          grind (arith, nat_tests, test) in absurd (omega (arith, past, number, from))
    ] in
    (low, high)
