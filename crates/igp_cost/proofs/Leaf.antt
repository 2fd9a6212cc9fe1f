-- A tree that grows by a node to which a new edge leads, and whose links offer no one else anything better, is
-- certified.
use Rattle.std.proofs.Common.{◌≡◌, ℕ, ◌<◌, ◌≢◌, ◌⊎◌, IsTrue, All, List, length, Contains, Some, None, Option, IfSome, refl, sym, ap, ◌∙◌, subst, inl, inr}
use Rattle.std.proofs.lemmas.Bool.{cases_eq}
use Rattle.std.proofs.lemmas.List.Elements.{All-contains}
use Rattle.std.proofs.lemmas.Option.{none-some}
use Rattle.net_prefix.specs.declared.addr.Addr.{Addr}
use Rattle.igp_cost.specs.declared.change.Change.{Change}
use Rattle.igp_cost.specs.declared.label.Label.{Label}
use Rattle.igp_cost.specs.declared.least_trees.link.Link.{Link}
use Rattle.igp_cost.specs.Metric.{IsMetric}
use Rattle.igp_cost.specs.Walks.{Nodes, Edges, HasEdge, share_as}
use Rattle.igp_cost.specs.Labels.{IsNotAfter, addr_at, nowhere}
use Rattle.igp_cost.specs.Trees.{Reached, source_of, label_in, IsTreeOf}
use Rattle.igp_cost.specs.Wired.{IsWired, IsFound, AreAscending, no_row}
use Rattle.igp_cost.specs.Changes.{Loses, AreEndsOf, IsChange}
use Rattle.igp_cost.specs.Stays.{IsTree, Follows}
use Rattle.igp_cost.specs.Offers.{via, OffersNoBetter, IsSettledAlone, IsGrownOver}
use Rattle.igp_cost.proofs.Bridge.{metrics}
use Rattle.igp_cost.proofs.Certificate.{HasSource, IsCertified, certified_cost, certified_hop}
use Rattle.igp_cost.proofs.Converse.{tree_certified}
use Rattle.igp_cost.proofs.Exact.{same_addr}
use Rattle.igp_cost.proofs.Places.{one_place, sorted_from_rises}
use Rattle.igp_cost.proofs.Unmoved.{swap, by_link, old_metrics, is_whole}

-- the same two ends: one of them is the leaf
at_leaf : (change : Change) (near leaf a b : Addr) → AreEndsOf change near leaf → AreEndsOf change a b →
    (a ≡ leaf) ⊎ (b ≡ leaf)
at_leaf change near leaf a b (inl e) (inl f) = inr (f.1 ∙ sym e.1)
at_leaf change near leaf a b (inl e) (inr f) = inl (f.0 ∙ sym e.1)
at_leaf change near leaf a b (inr e) (inl f) = inl (f.0 ∙ sym e.1)
at_leaf change near leaf a b (inr e) (inr f) = inr (f.1 ∙ sym e.1)

is_or_not : (x y : Addr) → (x ≡ y) ⊎ (x ≢ y)
is_or_not x y = elim (cases_eq x.0 y.0) as (λ _. (x ≡ y)
    ⊎ (x ≢ y)) [ inl same ↦ inl (same_addr x y same) | inr differs ↦ inr (λ q. differs (ap (λ (z : Addr). z.0) q)) ]

module _ (change : Change) (nodes : Nodes) (old new : Edges) (links : List Link) (wired : IsWired nodes new links)
    (t : Reached) (s : ℕ) (found : IsFound nodes (source_of t) s) (near leaf : Addr) (ends : AreEndsOf change near leaf)
    (adds : Loses change → ⊥) (is_change : IsChange change old new) (tree : IsTreeOf nodes old (source_of t) t)
    (rows : List (Addr × Label)) (ascending : AreAscending rows) (place : ℕ) (at : IsFound nodes leaf place)
    (unknown : label_in t leaf ≡ None) (others : (y : Addr) → y ≢ leaf →
    label_in (record { source = source_of t; labels = rows }) y ≡ label_in t y)
    (settled : IsSettledAlone nodes links (record { source = source_of t; labels = rows }) place) where
  abbrev made : Reached
  made = record { source = source_of t; labels = rows }

  abbrev r : Addr
  r = source_of t

  all_metrics : All (λ e. IsMetric e.2) new
  all_metrics = metrics nodes new links wired

  before : IsCertified nodes old r (label_in t)
  before = tree_certified nodes old r t (old_metrics change old new is_change all_metrics) tree

  -- what has a label is not the leaf
  apart : (x : Addr) (l : Label) → label_in t x ≡ Some l → x ≢ leaf
  apart x l is same = none-some l (sym unknown ∙ ap (label_in t) (sym same) ∙ is)

  ends_within : (link : Link) → Contains links link → (link.from < length nodes) × (link.to < length nodes)
      × IsMetric link.metric
  ends_within link among = All-contains (λ (l : Link). (l.from < length nodes) × (l.to < length nodes)
      × IsMetric l.metric) links link wired.within among

  -- the edges of the leaf
  from_leaf : (a b : Addr) (m : ℕ) → HasEdge new a b m → a ≡ leaf → OffersNoBetter nodes made a b m
      × OffersNoBetter nodes made b a m
  from_leaf a b m edge same =
      let h = wired.has_links a b m edge in
      let from : h.link.from ≡ place = one_place nowhere nodes wired.rising h.link.from place
      (ends_within h.link h.among).0 at.within (h.from ∙ same ∙ sym at.same) in
      let over = settled.each h.link h.among from in
      let both : OffersNoBetter nodes made (addr_at nodes place) (addr_at nodes h.link.to) h.link.metric
      × OffersNoBetter nodes made (addr_at nodes h.link.to) (addr_at nodes place) h.link.metric =
      (over.out, over.back) in
      subst (λ x. OffersNoBetter nodes made x b m × OffersNoBetter nodes made b x m) (at.same ∙ sym same)
      (subst (λ y. OffersNoBetter nodes made (addr_at nodes place) y m
      × OffersNoBetter nodes made y (addr_at nodes place) m) h.to
      (subst (λ n. OffersNoBetter nodes made (addr_at nodes place) (addr_at nodes h.link.to) n
      × OffersNoBetter nodes made (addr_at nodes h.link.to) (addr_at nodes place) n) h.metric both))

  closed : (a b : Addr) (m : ℕ) (l : Label) → HasEdge new a b m → IsTrue (share_as nodes r a) →
      label_in made a ≡ Some l → (k : Label) × (label_in made b ≡ Some k) × IsNotAfter k (via r a b m l)
  closed a b m l edge inside is = elim (is_or_not a leaf) [
    | inl here ↦ (from_leaf a b m edge here).0 l inside is
    | inr off_a ↦ elim (is_or_not b leaf) [
      | inl here ↦ (from_leaf b a m (swap new a b m edge) here).1 l inside is
      | inr off_b ↦ elim (is_change.gained a b m edge) [
        | inl kept ↦ let k = before.closed a b m l kept inside (sym (others a off_a) ∙ is) in
            (k.0, others b off_b ∙ k.1, k.2)
        | inr fresh ↦ elim (at_leaf change near leaf a b ends fresh.ends) [
          | inl same ↦ absurd (off_a same)
          | inr same ↦
              absurd (off_b same)
        ]
      ]
    ]
  ]

  backed : (x : Addr) (l : Label) → label_in made x ≡ Some l → (x ≡ r) ⊎ HasSource nodes new r (label_in made) x l
  backed x l is = elim (is_or_not x leaf) [
    | inl here ↦ elim (settled.held l (ap (label_in made) (at.same ∙ sym here) ∙ is)) [
      | inl start ↦ inl (here ∙ sym at.same ∙ start)
      | inr o ↦ inr (subst (λ y. HasSource nodes new r (label_in made) y l) (at.same
          ∙ sym here) (by_link nodes new links wired made (addr_at nodes place) l o))
    ]
    | inr off ↦ elim (before.backed x l (sym (others x off) ∙ is)) [
      | inl start ↦ inl start
      | inr s ↦ elim (is_change.lost s.before x s.metric s.edge) [
        | inl kept ↦ inr (record {
          before = s.before;
          metric = s.metric;
          label = s.label;
          edge = kept;
          inside = s.inside;
          is = others s.before (apart s.before s.label s.is) ∙ s.is;
          enough = s.enough;
        })
        | inr gone ↦ absurd (adds gone.loses)
      ]
    ]
  ]

  after : IsCertified nodes new r (label_in made)
  after = record {
    metrics = all_metrics;
    start = others r (apart r (record { cost = 0; hop = r }) before.start)
        ∙ before.start;
    closed = closed;
    backed = backed;
  }

  grows : IsTree nodes new made
  grows =
      let least : IsTreeOf nodes new r made =
      record {
        source = refl;
        ascending = sorted_from_rises no_row rows ascending;
        costs = certified_cost nodes new r (label_in made) after;
        first_hops = certified_hop nodes new r (label_in made) after;
      } in
      record { least = least; whole = is_whole nodes new links wired made s found after least }

-- what a tree that grows over a change is
pub grows_whole : (change : Change) (nodes : Nodes) (new : Edges) (links : List Link) → IsWired nodes new links →
    (t : Reached) (s : ℕ) → IsFound nodes (source_of t) s → (u : Reached) → IsGrownOver nodes links change t u →
    Follows change nodes new t u
grows_whole change nodes new links wired t s found u over =
    let g = over.grown in
    let others = subst (λ (u : Reached). (y : Addr) → y ≢ over.leaf →
    label_in u y ≡ label_in t y) g.more.is g.more.others in
    let settled = subst (λ (u : Reached). IsSettledAlone nodes links u g.place) g.more.is g.settled in
    let shown : Follows change nodes new t (record { source = source_of t; labels = g.more.rows }) =
    λ old is_change was. grows change nodes old new links wired t s found over.near over.leaf over.ends over.adds
    is_change was g.more.rows g.more.ascending g.place g.found g.more.unknown others settled in
    subst (λ (u : Reached). Follows change nodes new t u) (sym g.more.is) shown

pub some_weaker : (o : Option Reached) (P Q : Reached → Type 0) → ((t : Reached) → P t → Q t) → IfSome o P → IfSome o Q
some_weaker None P Q f p = tt
some_weaker (Some t) P Q f p = f t p
