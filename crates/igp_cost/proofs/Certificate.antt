-- Labels that no edge betters, and that edges back, are the costs and first hops of least walks.
use Rattle.std.proofs.Common.{◌≡◌, ℕ, zero, suc, ◌+◌, ◌<◌, ◌≤◌, ◌≢◌, ◌⊎◌, IsTrue, [], ◌∷◌, ◌++◌, All, Some, None, Option, refl, sym, ap, ◌∙◌, subst, inl, inr, arith}
use Rattle.std.specs.Prelude.{option_map}
use Rattle.std.proofs.lemmas.Bool.{cases_eq}
use Rattle.std.proofs.lemmas.Bool.Decides.{nat_tests}
use Rattle.std.proofs.lemmas.List.Elements.{All-contains}
use Rattle.std.proofs.lemmas.Option.{none-some, same_Some}
use Rattle.net_prefix.specs.declared.addr.Addr.{Addr}
use Rattle.igp_cost.specs.declared.label.Label.{Label}
use Rattle.igp_cost.specs.Metric.{IsMetric}
use Rattle.igp_cost.specs.Walks.{Nodes, Edges, Steps, HasEdge, share_as, Leads, IsWalk, total, first_of, IsLeastWalk, IsCost, IsFirstHop}
use Rattle.igp_cost.specs.Offers.{via}
use Rattle.igp_cost.specs.Labels.{IsNotAfter}
use Rattle.igp_cost.proofs.Exact.{same_addr, total_append}

pub record HasSource (nodes : Nodes) (edges : Edges) (r : Addr) (L : Addr → Option Label) (x : Addr)
    (l : Label) : Type 0 where
  pub before : Addr
  pub metric : ℕ
  pub label : Label
  pub edge : HasEdge edges before x metric
  pub inside : IsTrue (share_as nodes r before)
  pub is : L before ≡ Some label
  pub enough : IsNotAfter (via r before x metric label) l

pub record IsCertified (nodes : Nodes) (edges : Edges) (r : Addr) (L : Addr → Option Label) : Type 0 where
  pub metrics : All (λ e. IsMetric e.2) edges
  pub start : L r ≡ Some (record { cost = 0; hop = r })
  pub closed : (a b : Addr) (m : ℕ) (l : Label) → HasEdge edges a b m → IsTrue (share_as nodes r a) → L a ≡ Some l →
      (k : Label) × (L b ≡ Some k) × IsNotAfter k (via r a b m l)
  pub backed : (x : Addr) (l : Label) → L x ≡ Some l → (x ≡ r) ⊎ HasSource nodes edges r L x l

pub edge_metric : (edges : Edges) → All (λ e. IsMetric e.2) edges → (a b : Addr) (m : ℕ) →
    HasEdge edges a b m → IsMetric m
edge_metric edges metrics a b m (inl e) = All-contains (λ (e : Addr × Addr × ℕ). IsMetric e.2) edges (a, b, m) metrics e
edge_metric edges metrics a b m (inr e) = All-contains (λ (e : Addr × Addr × ℕ). IsMetric e.2) edges (b, a, m) metrics e

pub via_hop_start : (r a b : Addr) (m : ℕ) (l : Label) → a ≡ r → (via r a b m l).hop ≡ b
via_hop_start r a b m l same = let e = ap (λ (y : Addr). y.0) same in grind (arith, nat_tests)

pub via_hop_other : (r a b : Addr) (m : ℕ) (l : Label) → a ≢ r → (via r a b m l).hop ≡ l.hop
via_hop_other r a b m l differs = let e : a.0 ≢ r.0 = λ same. differs (same_addr a r same) in grind (arith, nat_tests)

pub total_last : (steps : Steps) (x : Addr) (m : ℕ) → total (steps ++ (x, m) ∷ []) ≡ total steps + m
total_last steps x m = omega (arith, total_append steps ((x, m) ∷ []))

module _ (nodes : Nodes) (edges : Edges) (r : Addr) where
  pub walk_on : (a b x : Addr) (steps : Steps) (m : ℕ) → Leads nodes edges r a steps b → IsTrue (share_as nodes r b) →
      HasEdge edges b x m → Leads nodes edges r a (steps ++ (x, m) ∷ []) x
  walk_on a b x [] m walk inside edge = let P : Addr → Type 0 = λ y. IsTrue (share_as nodes r y) × HasEdge edges y x m
      × (x ≡ x) in subst P (sym walk) (inside, edge, refl)
  walk_on a b x ((c, n) ∷ steps) m walk inside edge = (walk.0, walk.1, walk_on c b x steps m walk.2 inside edge)

  -- a walk of no cost has no steps
  pub first_alone : (metrics : All (λ e. IsMetric e.2) edges) (a x : Addr) (steps : Steps) (m : ℕ) →
      Leads nodes edges r r steps a → total steps ≡ 0 → first_of r (steps ++ (x, m) ∷ []) ≡ x
  first_alone metrics a x [] m walk none = refl
  first_alone metrics a x ((c, n) ∷ steps) m walk none =
      absurd (omega (arith, none, (edge_metric edges metrics r c n walk.1).0))

  -- a walk to elsewhere has some, and keeps its first hop
  pub first_kept : (a x : Addr) (steps : Steps) (m : ℕ) → Leads nodes edges r r steps a → a ≢ r →
      first_of r (steps ++ (x, m) ∷ []) ≡ first_of r steps
  first_kept a x [] m walk differs = absurd (differs (sym walk))
  first_kept a x ((c, n) ∷ steps) m walk differs = refl

module _ (nodes : Nodes) (edges : Edges) (r : Addr) (L : Addr → Option Label) (cert : IsCertified nodes edges r L) where
  -- no walk leads to a lower cost
  optimal : (a x : Addr) (steps : Steps) (l : Label) → Leads nodes edges r a steps x → L a ≡ Some l → (k : Label)
      × (L x ≡ Some k) × (k.cost ≤ l.cost + total steps)
  optimal a x [] l walk is = (l, ap L (sym walk) ∙ is, omega arith)
  optimal a x ((b, m) ∷ steps) l walk is =
      let next = cert.closed a b m l walk.1 walk.0 is in
      let later = optimal b x steps next.0 walk.2 next.1 in
      (later.0, later.1, omega (arith, later.2, next.2.cost))

  starts : (l : Label) → L r ≡ Some l → record { cost = 0; hop = r } ≡ l
  starts l is = same_Some _ _ (sym cert.start ∙ is)

  -- a walk on from another address than r, of least cost, leads to no greater hop
  hops : (a x : Addr) (steps : Steps) (l k : Label) → Leads nodes edges r a steps x → L a ≡ Some l → 0 < l.cost →
      L x ≡ Some k → k.cost ≡ l.cost + total steps → k.hop.0 ≤ l.hop.0
  hops a x [] l k walk is far at same =
      let e : l ≡ k = same_Some _ _ (sym is ∙ ap L walk ∙ at) in
      let h = ap (λ (y : Label). y.hop.0) e in
      omega (arith, h)
  hops a x ((b, m) ∷ steps) l k walk is far at same =
      let next = cert.closed a b m l walk.1 walk.0 is in
      let later = optimal b x steps next.0 walk.2 next.1 in
      let e : later.0 ≡ k = same_Some _ _ (sym later.1 ∙ at) in
      let c = ap (λ (y : Label). y.cost) e in
      let differs : a ≢ r = λ q. let s = ap (λ (y : Label). y.cost) (starts l (ap L (sym q) ∙ is)) in
      omega (arith, s) in
      let through = ap (λ (y : Addr). y.0) (via_hop_other r a b m l differs) in
      let tight : next.0.cost ≡ l.cost + m = omega (arith, c, later.2, next.2.cost) in
      let here = next.2.hop tight in
      omega (
        arith,
        hops b x steps next.0 k walk.2 next.1 (omega (arith, tight)) at (omega (arith, tight, same)),
        here,
        through,
      )

  -- the hop is the least
  hops_start : (x : Addr) (steps : Steps) (k : Label) → IsWalk nodes edges r x steps → L x ≡ Some k →
      total steps ≡ k.cost → k.hop.0 ≤ (first_of r steps).0
  hops_start x [] k walk at same =
      let h = ap (λ (y : Label). y.hop.0) (starts k (ap L walk ∙ at)) in
      omega (arith, h)
  hops_start x ((b, m) ∷ steps) k walk at same =
      let l : Label = record { cost = 0; hop = r } in
      let next = cert.closed r b m l walk.1 walk.0 cert.start in
      let later = optimal b x steps next.0 walk.2 next.1 in
      let e : later.0 ≡ k = same_Some _ _ (sym later.1 ∙ at) in
      let c = ap (λ (y : Label). y.cost) e in
      let through = ap (λ (y : Addr). y.0) (via_hop_start r r b m l refl) in
      let tight : next.0.cost ≡ 0 + m = omega (arith, c, later.2, next.2.cost) in
      let here = next.2.hop tight in
      let positive = (edge_metric edges cert.metrics r b m walk.1).0 in
      omega (
        arith,
        hops b x steps next.0 k walk.2 next.1 (omega (arith, tight, positive)) at
            (omega (arith, tight, same)),
        here,
        through,
      )

  -- each label is that of a walk
  sound : (n : ℕ) (x : Addr) (l : Label) → l.cost < n → L x ≡ Some l → (steps : Steps) × IsWalk nodes edges r x steps
      × (total steps ≡ l.cost) × (first_of r steps ≡ l.hop)
  sound zero x l below is = absurd (omega arith)
  sound (suc n) x l below is = elim (cert.backed x l is) [
    | inl start ↦
        let e = starts l (ap L (sym start) ∙ is) in
        let c = ap (λ (y : Label). y.cost) e in
        let h = ap (λ (y : Label). y.hop) e in
        ([], sym start, c, h)
    | inr from ↦
        let close = cert.closed from.before x from.metric from.label from.edge from.inside from.is in
        let e : close.0 ≡ l = same_Some _ _ (sym close.1 ∙ is) in
        let offer = via r from.before x from.metric from.label in
        let other : IsNotAfter l offer = subst (λ y. IsNotAfter y offer) e close.2 in
        let cost : l.cost ≡ from.label.cost + from.metric = omega (arith, other.cost, from.enough.cost) in
        let hop : l.hop ≡ offer.hop =
        same_addr l.hop offer.hop (omega (arith, other.hop cost, from.enough.hop (sym cost))) in
        let positive = (edge_metric edges cert.metrics from.before x from.metric from.edge).0 in
        let walk = sound n from.before from.label (omega (arith, cost, positive)) from.is in
        let first : first_of r (walk.0 ++ (x, from.metric) ∷ []) ≡ l.hop = elim (cases_eq from.before.0 r.0) [
          | inl same ↦
              let at = same_addr from.before r same in
              let s = ap (λ (y : Label). y.cost) (starts from.label (ap L (sym at) ∙ from.is)) in
              first_alone nodes edges r cert.metrics from.before x walk.0 from.metric walk.1 (walk.2 ∙ sym s)
              ∙ sym (hop ∙ via_hop_start r from.before x from.metric from.label at)
          | inr differs ↦
              let apart : from.before ≢ r = λ q. differs (ap (λ (y : Addr). y.0) q) in
              first_kept nodes edges r from.before x walk.0 from.metric walk.1 apart ∙ walk.3
              ∙ sym (hop ∙ via_hop_other r from.before x from.metric from.label apart)
        ] in (
          walk.0 ++ (x, from.metric) ∷ [],
          walk_on nodes edges r r from.before x walk.0 from.metric walk.1 from.inside from.edge,
          total_last walk.0 x from.metric ∙ omega (arith, walk.2, cost),
          first,
        )
  ]

  -- no walk is cheaper than the label
  below : (x : Addr) (l : Label) → L x ≡ Some l → (steps : Steps) → IsWalk nodes edges r x steps → l.cost ≤ total steps
  below x l is steps walk =
      let o = optimal r x steps (record { cost = 0; hop = r }) walk cert.start in
      let c = ap (λ (y : Label). y.cost) (same_Some _ _ (sym o.1 ∙ is)) in
      omega (arith, o.2, c)

  -- a least walk of the label's cost and first hop
  least_walk : (x : Addr) (l : Label) → L x ≡ Some l → (steps : Steps) × IsLeastWalk nodes edges r x steps
      × (total steps ≡ l.cost) × (first_of r steps ≡ l.hop)
  least_walk x l is =
      let found = sound (suc l.cost) x l (omega arith) is in (
        found.0,
        record { walk = found.1; least = λ others walk. omega (arith, found.2, below x l is others walk) },
        found.2,
        found.3,
      )

  no_walk : (x : Addr) → L x ≡ None → (steps : Steps) → IsWalk nodes edges r x steps → ⊥
  no_walk x is steps walk = let o = optimal r x steps (record { cost = 0; hop = r }) walk cert.start in
      none-some o.0 (sym is ∙ o.1)

  pub certified_cost : (x : Addr) → IsCost nodes edges r x (option_map (λ l. l.cost) (L x))
  certified_cost x = by (L x) refl
    where
      by : (o : Option Label) → L x ≡ o → IsCost nodes edges r x (option_map (λ l. l.cost) o)
      by None is = no_walk x is
      by (Some l) is = let found = least_walk x l is in (found.0, found.1, found.2)

  pub certified_hop : (x : Addr) → IsFirstHop nodes edges r x (option_map (λ l. l.hop) (L x))
  certified_hop x = by (L x) refl
    where
      by : (o : Option Label) → L x ≡ o → IsFirstHop nodes edges r x (option_map (λ l. l.hop) o)
      by None is = no_walk x is
      by (Some l) is =
          let found = least_walk x l is in
          record {
            begins = (found.0, found.1, found.3);
            least = λ steps walk. hops_start x steps l walk.walk is (omega (
              arith,
              below x l is steps walk.walk,
              walk.least found.0 found.1.walk,
              found.2,
            ));
          }
