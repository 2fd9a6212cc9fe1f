-- Labels by places that are backed and closed are the costs and first hops of the tree.
use Rattle.std.proofs.Common.{◌≡◌, ℕ, ◌+◌, ◌<◌, ◌≢◌, ◌⊎◌, true, IsTrue, List, All, length, get_or, if◌then◌else◌, Some, None, Option, Contains, IfSome, IsSomeAnd, refl, sym, ap, ◌∙◌, subst, inl, inr, arith, option_map}
use Rattle.std.specs.Prelude.{◌==◌}
use Rattle.std.specs.Map.{lookup}
use Rattle.std.specs.BTreeMap.{is_at}
use Rattle.std.proofs.lemmas.List.{get_or_default}
use Rattle.std.proofs.lemmas.List.Elements.{All-contains}
use Rattle.std.proofs.lemmas.Bool.{cases_eq}
use Rattle.std.proofs.lemmas.Bool.Decides.{nat_tests}
use Rattle.std.proofs.lemmas.Option.{none-some, same_Some}
use Rattle.net_prefix.specs.declared.addr.Addr.{Addr}
use Rattle.net_prefix.specs.Address.{addr_cmp}
use Rattle.igp_cost.specs.declared.label.Label.{Label}
use Rattle.igp_cost.specs.declared.least_trees.link.Link.{Link}
use Rattle.igp_cost.specs.Metric.{IsMetric}
use Rattle.igp_cost.specs.Walks.{Nodes, Edges, HasEdge, asn_of, is_one_number, share_as}
use Rattle.igp_cost.specs.Trees.{Reached, label_in, cost_in, first_hop_in, IsTreeOf, reached, tree_of}
use Rattle.igp_cost.specs.Costs.{cost, first_hop}
use Rattle.igp_cost.specs.Labels.{Labels, nowhere, addr_at, asn_at, label_at, extended, extension, IsNotAfter, IsClosed, AreBackedLabels}
use Rattle.igp_cost.specs.Wired.{IsWired, IsRising, IsFound, no_row, rows_of}
use Rattle.igp_cost.specs.Offers.{via}
use Rattle.igp_cost.proofs.Certificate.{HasSource, IsCertified, certified_cost, certified_hop}
use Rattle.igp_cost.proofs.Exact.{cost_exact, same_addr}
use Rattle.igp_cost.proofs.Hops.{one_cost, one_first_hop, first_hop_exact}
use Rattle.igp_cost.proofs.Kernel.{extension_from}
use Rattle.igp_cost.proofs.Places.{one_place, lookup_at, placed, sorted_from_rises}
use Rattle.igp_cost.proofs.Rows.{row_at, row_node, rows_rise}
use Rattle.igp_cost.proofs.Whole.{rows_are, made_of}

some_and : (o : Option Label) (P : Label → Type 0) → IsSomeAnd o P → (k : Label) × (o ≡ Some k) × P k
some_and None P h = absurd h
some_and (Some k) P h = (k, refl, h)

-- the two tests of an offer
gives : (nodes : Nodes) (s : ℕ) (link : Link) (b : Label) → asn_at nodes link.from ≡ asn_at nodes s →
    extended nodes s link (Some b)
    ≡ Some (record { cost = b.cost + link.metric; hop = if link.from == s then addr_at nodes link.to else b.hop })
gives nodes s link b same = grind (arith, nat_tests)

asked : (nodes : Nodes) (s : ℕ) (link : Link) (b e : Label) → extended nodes s link (Some b) ≡ Some e →
    asn_at nodes link.from ≡ asn_at nodes s
asked nodes s link b e is = elim (cases_eq (asn_at nodes link.from) (asn_at nodes s)) [
  | inl same ↦ same
  | inr differs ↦ let none : extended nodes s link (Some b) ≡ None = grind (arith, nat_tests) in
      absurd (none-some e (sym none ∙ is))
]

-- two numbers that are there
same_number : (o p : Option ℕ) (m n : ℕ) → o ≡ Some m → p ≡ Some n → IsTrue (is_one_number o p) → n ≡ m
same_number o p m n first second is =
    let test : IsTrue (m == n) = subst (λ p. IsTrue (is_one_number (Some m) p)) second
    (subst (λ o. IsTrue (is_one_number o p)) first is) in
    grind (arith, nat_tests)

one_number : (o p : Option ℕ) (m n : ℕ) → o ≡ Some m → p ≡ Some n → n ≡ m → IsTrue (is_one_number o p)
one_number o p m n first second same =
    let test : (m == n) ≡ true = grind (arith, nat_tests) in
    subst (λ o. IsTrue (is_one_number o p)) (sym first)
    (subst (λ p. IsTrue (is_one_number (Some m) p)) (sym second) test)

module _ (nodes : Nodes) (edges : Edges) (links : List Link) (wired : IsWired nodes edges links) where
  -- the AS of a node is the one at its place
  as_is : (i : ℕ) → i < length nodes → asn_of nodes (addr_at nodes i) ≡ Some (asn_at nodes i)
  as_is i lt = lookup_at nowhere nodes wired.rising i (addr_at nodes i) lt refl

  ends : (link : Link) → Contains links link → (link.from < length nodes) × (link.to < length nodes)
      × IsMetric link.metric
  ends link among = All-contains (λ (l : Link). (l.from < length nodes) × (l.to < length nodes)
      × IsMetric l.metric) links link wired.within among

  -- the metrics of the edges are those of links
  pub metrics : All (λ e. IsMetric e.2) edges
  metrics k d lt =
      let e = get_or edges k d in
      let has = wired.has_links e.0 e.1 e.2 (inl (k, lt, get_or_default edges k e d lt)) in
      subst IsMetric has.metric (ends has.link has.among).2

module _ (nodes : Nodes) (edges : Edges) (links : List Link) (wired : IsWired nodes edges links) (s : ℕ)
    (s_in : s < length nodes) (labels : Labels) (backed : AreBackedLabels nodes s links labels)
    (closed : IsClosed nodes s links labels) where
  abbrev r : Addr
  r = addr_at nodes s

  abbrev L : Addr → Option Label
  L x = lookup (is_at (addr_cmp x)) (rows_of nodes labels)

  at_index : (i : ℕ) → i < length nodes → L (addr_at nodes i) ≡ label_at labels i
  at_index i lt = row_at nodes labels wired.rising backed.same_length i lt

  same_index : (i j : ℕ) → i < length nodes → j < length nodes → addr_at nodes i ≡ addr_at nodes j → i ≡ j
  same_index i j i_in j_in same = one_place nowhere nodes wired.rising i j i_in j_in same

  shared_from : (i : ℕ) → i < length nodes → IsTrue (share_as nodes r (addr_at nodes i)) →
      asn_at nodes i ≡ asn_at nodes s
  shared_from i lt is = same_number (asn_of nodes r) (asn_of nodes (addr_at nodes i)) (asn_at nodes s) (asn_at nodes i)
      (as_is nodes edges links wired s s_in) (as_is nodes edges links wired i lt) is

  shared_made : (i : ℕ) → i < length nodes → asn_at nodes i ≡ asn_at nodes s →
      IsTrue (share_as nodes r (addr_at nodes i))
  shared_made i lt same = one_number (asn_of nodes r) (asn_of nodes (addr_at nodes i)) (asn_at nodes s) (asn_at nodes i)
      (as_is nodes edges links wired s s_in) (as_is nodes edges links wired i lt) same

  offer_hop : (link : Link) (l : Label) → link.from < length nodes →
      record { cost = l.cost + link.metric; hop = if link.from == s then addr_at nodes link.to else l.hop }
      ≡ via r (addr_at nodes link.from) (addr_at nodes link.to) link.metric l
  offer_hop link l lt = elim (cases_eq link.from s) [
    | inl same ↦ let addrs = ap (λ i. (addr_at nodes i).0) same in grind (arith, nat_tests)
    | inr differs ↦ let addrs : (addr_at nodes link.from).0 ≢ r.0 =
        λ e. differs (same_index link.from s lt s_in (same_addr (addr_at nodes link.from) r e)) in
        grind (arith, nat_tests)
  ]

  closed_link : (link : Link) → Contains links link → IsTrue (share_as nodes r (addr_at nodes link.from)) →
      (l : Label) → L (addr_at nodes link.from) ≡ Some l → (k : Label) × (L (addr_at nodes link.to) ≡ Some k)
      × IsNotAfter k (via r (addr_at nodes link.from) (addr_at nodes link.to) link.metric l)
  closed_link link among inside l is =
      let lt = ends nodes edges links wired link among in
      let from : label_at labels link.from ≡ Some l = sym (at_index link.from lt.0) ∙ is in
      let same = shared_from link.from lt.0 inside in
      let offer : extension nodes s labels link
      ≡ Some (via r (addr_at nodes link.from) (addr_at nodes link.to) link.metric l) =
      ap (extended nodes s link) from ∙ gives nodes s link l same
      ∙ ap (λ (x : Label). Some x) (offer_hop link l lt.0) in
      let now = some_and (label_at labels link.to)
      (λ b. IsNotAfter b (via r (addr_at nodes link.from) (addr_at nodes link.to) link.metric l))
      (subst (λ o. IfSome o (λ e. IsSomeAnd (label_at labels link.to) (λ b. IsNotAfter b e))) offer
      (closed link among)) in
      (now.0, at_index link.to lt.1 ∙ now.1, now.2)

  closed_edge : (a b : Addr) (m : ℕ) (l : Label) → HasEdge edges a b m → IsTrue (share_as nodes r a) → L a ≡ Some l →
      (k : Label) × (L b ≡ Some k) × IsNotAfter k (via r a b m l)
  closed_edge a b m l edge inside is =
      let h = wired.has_links a b m edge in
      let k = closed_link h.link h.among (subst (λ y. IsTrue (share_as nodes r y)) (sym h.from) inside) l
      (ap L h.from ∙ is) in
      subst (λ y. (k : Label) × (L b ≡ Some k) × IsNotAfter k (via r y b m l)) h.from
      (subst (λ y. (k : Label) × (L y ≡ Some k) × IsNotAfter k (via r (addr_at nodes h.link.from) y m l)) h.to
      (subst (λ y. (k : Label) × (L (addr_at nodes h.link.to) ≡ Some k)
      × IsNotAfter k (via r (addr_at nodes h.link.from) (addr_at nodes h.link.to) y l)) h.metric k))

  backed_row : (x : Addr) (l : Label) → L x ≡ Some l → (x ≡ r) ⊎ HasSource nodes edges r L x l
  backed_row x l is =
      let found = placed no_row (rows_of nodes labels) x l is in
      let node = row_node nodes labels found.place found.within in
      let i = node.place in
      let here : addr_at nodes i ≡ x = node.same ∙ found.key in
      let label : label_at labels i ≡ Some l = sym (at_index i node.within) ∙ ap L here ∙ is in
      elim (backed.backed i l label) [
        | inl start ↦ inl (sym here ∙ ap (addr_at nodes) start)
        | inr b ↦
            let from = extension_from nodes s labels b.link b.offer b.offered in
            let lt = ends nodes edges links wired b.link b.among in
            let same = asked nodes s b.link from.0 b.offer from.2 in
            let to : addr_at nodes b.link.to ≡ x = ap (addr_at nodes) b.ends ∙ here in
            let offer : b.offer ≡ via r (addr_at nodes b.link.from) x b.link.metric from.0 =
            same_Some _ _ (sym from.2 ∙ gives nodes s b.link from.0 same) ∙ offer_hop b.link from.0 lt.0
            ∙ ap (λ y. via r (addr_at nodes b.link.from) y b.link.metric from.0) to in
            inr (record {
              before = addr_at nodes b.link.from;
              metric = b.link.metric;
              label = from.0;
              edge = subst (λ y. HasEdge edges (addr_at nodes b.link.from) y b.link.metric) to
                  (wired.are_edges b.link b.among);
              inside = shared_made b.link.from lt.0 same;
              is = at_index b.link.from lt.0 ∙ from.1;
              enough = subst (λ y. IsNotAfter y l) offer b.enough;
            })
      ]

  certificate : IsCertified nodes edges r L
  certificate = record {
    metrics = metrics nodes edges links wired;
    start = at_index s s_in ∙ backed.start;
    closed = closed_edge;
    backed = backed_row;
  }

  abbrev tree : Reached
  tree = record { source = r; labels = rows_of nodes labels }

  pub is_tree : IsTreeOf nodes edges r tree
  is_tree = record {
    source = refl;
    ascending = sorted_from_rises no_row (rows_of nodes labels) (rows_rise nodes labels wired.rising);
    costs = certified_cost nodes edges r L certificate;
    first_hops = certified_hop nodes edges r L certificate;
  }

-- the tree of the source that contracts see
pub record IsExactTree (nodes : Nodes) (edges : Edges) (r : Addr) (t : Reached) : Type 0 where
  pub least : IsTreeOf nodes edges r t
  pub costs : (x : Addr) → cost_in t x ≡ cost nodes edges r x
  pub first_hops : (x : Addr) → first_hop_in t x ≡ first_hop nodes edges r x
  pub whole : t ≡ tree_of nodes edges r

-- the rows say the costs and first hops of all nodes
pub whole_tree : (nodes : Nodes) (edges : Edges) (r : Addr) (labels : Labels) → IsRising nodes →
    length labels ≡ length nodes → (t : Reached) → t ≡ record { source = r; labels = rows_of nodes labels } →
    ((x : Addr) → cost_in t x ≡ cost nodes edges r x) → ((x : Addr) → first_hop_in t x ≡ first_hop nodes edges r x) →
    t ≡ tree_of nodes edges r
unfolding tree_of
whole_tree nodes edges r labels rising same t is costs hops =
    let tree : List (Addr × Label) → Reached = λ rows. record { source = r; labels = rows } in
    let found : (i : ℕ) → i < length nodes → label_in t (addr_at nodes i) ≡ label_at labels i = λ i lt.
    ap (λ (u : Reached). label_in u (addr_at nodes i)) is ∙ row_at nodes labels rising same i lt in
    is ∙ ap tree (rows_are (reached nodes edges r) nodes labels same
    (λ i lt. made_of nodes edges r (addr_at nodes i) (label_at labels i)
    (ap (option_map (λ l. l.cost)) (sym (found i lt)) ∙ costs (addr_at nodes i))
    (ap (option_map (λ l. l.hop)) (sym (found i lt)) ∙ hops (addr_at nodes i))))

pub exact_tree : (nodes : Nodes) (edges : Edges) (links : List Link) → IsWired nodes edges links → (s : ℕ) →
    s < length nodes → (labels : Labels) → AreBackedLabels nodes s links labels → IsClosed nodes s links labels →
    (source : Addr) → addr_at nodes s ≡ source → (t : Reached) →
    t ≡ record { source = source; labels = rows_of nodes labels } → IsExactTree nodes edges source t
exact_tree nodes edges links wired s s_in labels backed closed source same t is =
    let tree : Reached = record { source = addr_at nodes s; labels = rows_of nodes labels } in
    let least : IsTreeOf nodes edges (addr_at nodes s) tree =
    is_tree nodes edges links wired s s_in labels backed closed in
    let costs : (x : Addr) → cost_in tree x ≡ cost nodes edges (addr_at nodes s) x =
    λ x. one_cost nodes edges (addr_at nodes s) x (cost_in tree x) (cost nodes edges (addr_at nodes s) x)
    (least.costs x) (cost_exact nodes edges (addr_at nodes s) x) in
    let hops : (x : Addr) → first_hop_in tree x ≡ first_hop nodes edges (addr_at nodes s) x =
    λ x. one_first_hop nodes edges (addr_at nodes s) x (first_hop_in tree x)
    (first_hop nodes edges (addr_at nodes s) x) (least.first_hops x)
    (first_hop_exact nodes edges (metrics nodes edges links wired) (addr_at nodes s) x) in
    let exact : IsExactTree nodes edges (addr_at nodes s) tree = record {
      least = least;
      costs = costs;
      first_hops = hops;
      whole = whole_tree nodes edges (addr_at nodes s) labels wired.rising backed.same_length tree refl costs hops;
    } in
    subst (IsExactTree nodes edges source) (sym is)
    (subst (λ (r : Addr). let u : Reached = record { source = r; labels = rows_of nodes labels } in
    IsExactTree nodes edges r u) same exact)

-- the same, of nodes and labels as a function over a graph knows them
pub exact_seen : (nodes : Nodes) (edges : Edges) (links : List Link) → IsWired nodes edges links →
    (s : ℕ) (source : Addr) → IsFound nodes source s → (labels : Labels) → AreBackedLabels nodes s links labels →
    IsClosed nodes s links labels → (given : Labels) → given ≡ labels → (inside : Nodes) → nodes ≡ inside →
    (t : Reached) → t ≡ record { source = source; labels = rows_of nodes given } → IsExactTree inside edges source t
exact_seen nodes edges links wired s source found labels backed closed given same_labels inside same_nodes t is =
    let tree : Labels → Reached = λ l. record { source = source; labels = rows_of nodes l } in
    subst (λ (n : Nodes). IsExactTree n edges source t) same_nodes
    (exact_tree nodes edges links wired s found.within labels backed closed source found.same t (is
    ∙ ap tree same_labels))
