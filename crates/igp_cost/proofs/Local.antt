-- Labels that differ from those of the tree before a change at some addresses alone are certified by the edges around
-- these.
use Rattle.std.proofs.Common.{◌≡◌, ℕ, ◌<◌, ◌⊎◌, IsTrue, All, List, length, Contains, Some, None, Option, refl, sym, ◌∙◌, subst, inl, inr}
use Rattle.std.proofs.lemmas.List.Elements.{All-contains}
use Rattle.net_prefix.specs.declared.addr.Addr.{Addr}
use Rattle.igp_cost.specs.declared.change.Change.{Change}
use Rattle.igp_cost.specs.declared.label.Label.{Label}
use Rattle.igp_cost.specs.Metric.{IsMetric}
use Rattle.igp_cost.specs.Walks.{Nodes, Edges, HasEdge, share_as}
use Rattle.igp_cost.specs.declared.least_trees.link.Link.{Link}
use Rattle.igp_cost.specs.Labels.{Labels, IsNotAfter, addr_at, nowhere}
use Rattle.igp_cost.specs.Trees.{Reached, source_of, label_in, IsTreeOf}
use Rattle.igp_cost.specs.Wired.{IsWired, IsFound, rows_of, no_row}
use Rattle.igp_cost.specs.Changes.{ends_of, AreEndsOf, IsChange}
use Rattle.igp_cost.specs.Stays.{IsTree, Follows}
use Rattle.igp_cost.specs.Offers.{via, OffersNoBetter, IsHeld, SaySameOf, SaySame, IsSettledAround, IsLocal, IsMendedOver}
use Rattle.igp_cost.proofs.Bridge.{metrics}
use Rattle.igp_cost.proofs.Certificate.{HasSource, IsCertified, certified_cost, certified_hop}
use Rattle.igp_cost.proofs.Converse.{tree_certified}
use Rattle.igp_cost.proofs.Places.{placed, one_place, sorted_from_rises}
use Rattle.igp_cost.proofs.Rows.{row_node, rows_rise}
use Rattle.igp_cost.proofs.Unmoved.{swap, by_link, old_metrics, is_whole}

-- x is looked at, or has the label that it had
abbrev pub IsSameOr : (Addr → Type 0) → (Addr → Option Label) → (Addr → Option Label) → Type 0
IsSameOr D L M = (x : Addr) → D x ⊎ (M x ≡ L x)

-- no edge at an address that is looked at, either way, offers anything better
abbrev pub IsClosedAround : (Addr → Type 0) → Nodes → Edges → Addr → (Addr → Option Label) → Type 0
IsClosedAround D nodes edges r M = (a b : Addr) (m : ℕ) (l : Label) → D a ⊎ D b → HasEdge edges a b m →
    IsTrue (share_as nodes r a) → M a ≡ Some l → (k : Label) × (M b ≡ Some k) × IsNotAfter k (via r a b m l)

-- x is looked at, or is a neighbour of one that is
abbrev pub IsNear : (Addr → Type 0) → Edges → Addr → Type 0
IsNear D edges x = D x ⊎ ((y : Addr) × (m : ℕ) × HasEdge edges y x m × D y)

-- what is near is backed
abbrev pub IsBackedAround : (Addr → Type 0) → Nodes → Edges → Addr → (Addr → Option Label) → Type 0
IsBackedAround D nodes edges r M = (x : Addr) (l : Label) → IsNear D edges x → M x ≡ Some l → (x ≡ r)
    ⊎ HasSource nodes edges r M x l

at_either : (change : Change) (D : Addr → Type 0) → D (ends_of change).0 → D (ends_of change).1 → (a b : Addr) →
    AreEndsOf change a b → D a × D b
at_either change D first second a b (inl e) = (subst D (sym e.0) first, subst D (sym e.1) second)
at_either change D first second a b (inr e) = (subst D (sym e.0) second, subst D (sym e.1) first)

-- D: the addresses that are looked at, the ends of the edge among them
module _ (change : Change) (nodes : Nodes) (old new : Edges) (r : Addr) (L M : Addr → Option Label) (D : Addr →
    Type 0) (is_change : IsChange change old new) (before : IsCertified nodes old r L)
    (metrics : All (λ e. IsMetric e.2) new) (first : D (ends_of change).0) (second : D (ends_of change).1)
    (same : IsSameOr D L M) (start : M r ≡ Some (record { cost = 0; hop = r }))
    (closed : IsClosedAround D nodes new r M) (backed : IsBackedAround D nodes new r M) where
  closed_all : (a b : Addr) (m : ℕ) (l : Label) → HasEdge new a b m → IsTrue (share_as nodes r a) → M a ≡ Some l →
      (k : Label) × (M b ≡ Some k) × IsNotAfter k (via r a b m l)
  closed_all a b m l edge inside is = elim (is_change.gained a b m edge) [
    | inr fresh ↦ closed a b m l (inl (at_either change D first second a b fresh.ends).0) edge inside is
    | inl kept ↦ elim (same a) [
      | inl seen ↦ closed a b m l (inl seen) edge inside is
      | inr same_a ↦ elim (same b) [
        | inl seen ↦ closed a b m l (inr seen) edge inside is
        | inr same_b ↦ let k = before.closed a b m l kept inside (sym same_a ∙ is) in (k.0, same_b ∙ k.1, k.2)
      ]
    ]
  ]

  backed_all : (x : Addr) (l : Label) → M x ≡ Some l → (x ≡ r) ⊎ HasSource nodes new r M x l
  backed_all x l is = elim (same x) [
    | inl seen ↦ backed x l (inl seen) is
    | inr same_x ↦ elim (before.backed x l (sym same_x ∙ is)) [
      | inl at ↦ inl at
      | inr s ↦ elim (is_change.lost s.before x s.metric s.edge) [
        | inr gone ↦ backed x l (inl (at_either change D first second s.before x gone.ends).1) is
        | inl kept ↦ elim (same s.before) [
          | inl seen ↦ backed x l (inr (s.before, s.metric, kept, seen)) is
          | inr same_s ↦ inr (record {
            before = s.before;
            metric = s.metric;
            label = s.label;
            edge = kept;
            inside = s.inside;
            is = same_s ∙ s.is;
            enough = s.enough;
          })
        ]
      ]
    ]
  ]

  pub locally_certified : IsCertified nodes new r M
  locally_certified = record { metrics = metrics; start = start; closed = closed_all; backed = backed_all }

module _ (change : Change) (nodes : Nodes) (old new : Edges) (links : List Link) (wired : IsWired nodes new links)
    (t : Reached) (labels : Labels) (same_length : length labels ≡ length nodes) (s : ℕ)
    (found : IsFound nodes (source_of t) s) (one other : ℕ) (found_one : IsFound nodes (ends_of change).0 one)
    (found_other : IsFound nodes (ends_of change).1 other) (is_change : IsChange change old new)
    (tree : IsTreeOf nodes old (source_of t) t) (before : Reached) (known : SaySame nodes t before)
    (local : IsLocal nodes links before
    (record { source = source_of t; labels = rows_of nodes labels }) one other) where
  abbrev made : Reached
  made = record { source = source_of t; labels = rows_of nodes labels }

  abbrev r : Addr
  r = source_of t

  all_metrics : All (λ e. IsMetric e.2) new
  all_metrics = metrics nodes new links wired

  certified : IsCertified nodes old r (label_in t)
  certified = tree_certified nodes old r t (old_metrics change old new is_change all_metrics) tree

  -- what is looked at
  abbrev D : Addr → Type 0
  D x = (v : ℕ) × IsFound nodes x v × IsSettledAround nodes links before made v

  end_one : D (ends_of change).0
  end_one = (one, found_one, local.first)

  end_other : D (ends_of change).1
  end_other = (other, found_other, local.second)

  ends_within : (link : Link) → Contains links link → (link.from < length nodes) × (link.to < length nodes)
      × IsMetric link.metric
  ends_within link among = All-contains (λ (l : Link). (l.from < length nodes) × (l.to < length nodes)
      × IsMetric l.metric) links link wired.within among

  same_node : (x : Addr) (v : ℕ) → v < length nodes → addr_at nodes v ≡ x → D x ⊎ (label_in made x ≡ label_in t x)
  same_node x v lt at = elim (local.each v lt) [
    | inr settled ↦ inl (v, record { within = lt; same = at }, settled)
    | inl same ↦ inr (subst (λ y. label_in made y ≡ label_in t y) at (same ∙ known v lt))
  ]

  same_all : (x : Addr) → D x ⊎ (label_in made x ≡ label_in t x)
  same_all x = by (label_in made x) refl (label_in t x) refl
    where
      by : (o : Option Label) → label_in made x ≡ o → (p : Option Label) → label_in t x ≡ p → D x
          ⊎ (label_in made x ≡ label_in t x)
      by None is_o None is_p = inr (is_o ∙ sym is_p)
      by (Some l) is_o p is_p =
          let row = placed no_row (rows_of nodes labels) x l is_o in
          let node = row_node nodes labels row.place row.within in
          same_node x node.place node.within (node.same ∙ row.key)
      by None is_o (Some l) is_p = elim (certified.backed x l is_p) [
        | inl start ↦ same_node x s found.within (found.same ∙ sym start)
        | inr from ↦ elim (is_change.lost from.before x from.metric from.edge) [
          | inl kept ↦ let h = wired.has_links from.before x from.metric kept in
              same_node x h.link.to (ends_within h.link h.among).1 h.to
          | inr gone ↦ inl (at_either change D end_one end_other from.before x gone.ends).1
        ]
      ]

  -- the link of an edge from an address that is looked at
  around : (a b : Addr) (m : ℕ) → HasEdge new a b m → D a → OffersNoBetter nodes made a b m
      × (SaySameOf t made b → OffersNoBetter nodes made b a m × IsHeld nodes links made b)
  around a b m edge seen =
      let h = wired.has_links a b m edge in
      let place : h.link.from ≡ seen.0 = one_place nowhere nodes wired.rising h.link.from seen.0
      (ends_within h.link h.among).0 seen.1.within (h.from ∙ sym seen.1.same) in
      let over = seen.2.each h.link h.among place in
      let same : SaySameOf t made (addr_at nodes h.link.to) → SaySameOf before made (addr_at nodes h.link.to) = λ is. is
      ∙ sym (known h.link.to (ends_within h.link h.among).1) in
      subst (λ x. OffersNoBetter nodes made x b m
      × (SaySameOf t made b → OffersNoBetter nodes made b x m × IsHeld nodes links made b)) seen.1.same
      (subst (λ y. OffersNoBetter nodes made (addr_at nodes seen.0) y m
      × (SaySameOf t made y → OffersNoBetter nodes made y (addr_at nodes seen.0) m
      × IsHeld nodes links made y)) h.to
      (subst (λ n. OffersNoBetter nodes made (addr_at nodes seen.0) (addr_at nodes h.link.to) n
      × (SaySameOf t made (addr_at nodes h.link.to) →
      OffersNoBetter nodes made (addr_at nodes h.link.to) (addr_at nodes seen.0) n
      × IsHeld nodes links made (addr_at nodes h.link.to))) h.metric (
        over.out,
        λ is. (over.back (same is), over.near (same is)),
      )))

  closed_around : IsClosedAround D nodes new r (label_in made)
  closed_around a b m l (inl seen) edge inside is = (around a b m edge seen).0 l inside is
  closed_around a b m l (inr seen) edge inside is = elim (same_all a) [
    | inl first ↦ (around a b m edge first).0 l inside is
    | inr same ↦ ((around b a m (swap new a b m edge) seen).1 same).0 l inside is
  ]

  held_backed : (x : Addr) (l : Label) → IsHeld nodes links made x → label_in made x ≡ Some l → (x ≡ r)
      ⊎ HasSource nodes new r (label_in made) x l
  held_backed x l held is =
      elim (held l is) [ inl start ↦ inl start | inr o ↦ inr (by_link nodes new links wired made x l o) ]

  backed_around : IsBackedAround D nodes new r (label_in made)
  backed_around x l (inl seen) is = held_backed x l (subst (IsHeld nodes links made) seen.1.same seen.2.held) is
  backed_around x l (inr near) is = elim (same_all x) [
    | inl seen ↦ held_backed x l (subst (IsHeld nodes links made) seen.1.same seen.2.held) is
    | inr same ↦ held_backed x l ((around near.0 x near.1 near.2 near.3).1 same).1 is
  ]

  after : IsCertified nodes new r (label_in made)
  after = locally_certified change nodes old new r (label_in t) (label_in made) D is_change certified all_metrics
      end_one end_other same_all local.start closed_around backed_around

  pub follows : IsTree nodes new made
  follows =
      let least : IsTreeOf nodes new r made =
      record {
        source = refl;
        ascending =
            sorted_from_rises no_row (rows_of nodes labels) (rows_rise nodes labels wired.rising);
        costs = certified_cost nodes new r (label_in made) after;
        first_hops = certified_hop nodes new r (label_in made) after;
      } in
      record { least = least; whole = is_whole nodes new links wired made s found after least }

-- what `mended` ensures
pub follows_whole : (change : Change) (nodes : Nodes) (new : Edges) (links : List Link) → IsWired nodes new links →
    (t : Reached) (s : ℕ) → IsFound nodes (source_of t) s → (other : Reached) →
    IsMendedOver nodes links change t other → Follows change nodes new t other
follows_whole change nodes new links wired t s found other over =
    let m = over.mended in
    let local = subst (λ (u : Reached). IsLocal nodes links m.before u over.one over.other) m.is m.local in
    let shown : Follows change nodes new t (record { source = source_of t; labels = rows_of nodes m.labels }) =
    λ old is_change was. follows change nodes old new links wired t m.labels m.same_length s found over.one
    over.other over.found_one over.found_other is_change was m.before m.known local in
    subst (λ (u : Reached). Follows change nodes new t u) (sym m.is) shown
