-- A change that takes away no label's backing, and offers nothing better, leaves a tree as it is.
use Rattle.std.proofs.Common.{◌≡◌, ℕ, zero, suc, ◌<◌, ◌⊎◌, IsTrue, Bool, true, false, All, List, [], ◌∷◌, map, length, get_or, Some, None, Option, Contains, refl, sym, ap, ◌∙◌, subst, inl, inr, arith}
use Rattle.std.specs.Bool.{OnTrue}
use Rattle.std.proofs.lemmas.List.{get_or_default}
use Rattle.std.proofs.lemmas.List.Elements.{All-contains}
use Rattle.net_prefix.specs.declared.addr.Addr.{Addr}
use Rattle.igp_cost.specs.declared.change.Change.{Change}
use Rattle.igp_cost.specs.declared.label.Label.{Label}
use Rattle.igp_cost.specs.declared.least_trees.link.Link.{Link}
use Rattle.igp_cost.specs.Metric.{IsMetric}
use Rattle.igp_cost.specs.Walks.{Nodes, Edges, HasEdge, share_as}
use Rattle.igp_cost.specs.Labels.{Labels, IsNotAfter, addr_at, label_at}
use Rattle.igp_cost.specs.Costs.{cost, first_hop}
use Rattle.igp_cost.specs.Trees.{Reached, source_of, label_in, cost_in, first_hop_in, IsTreeOf, tree_of}
use Rattle.igp_cost.specs.Wired.{IsWired, IsFound, rows_of, no_row}
use Rattle.igp_cost.specs.Changes.{ends_of, AreEndsOf, IsChange}
use Rattle.igp_cost.specs.Stays.{Stays}
use Rattle.igp_cost.specs.Offers.{via, IsOffered, OffersNoBetter, IsHeld, LosesNothing, GainsNothing}
use Rattle.igp_cost.proofs.Bridge.{metrics, whole_tree}
use Rattle.igp_cost.proofs.Exact.{cost_exact}
use Rattle.igp_cost.proofs.Hops.{one_cost, one_first_hop, first_hop_exact}
use Rattle.igp_cost.proofs.Places.{placed, same_list, rises_from_sorted}
use Rattle.igp_cost.proofs.Rows.{row_at, row_node, rows_rise}
use Rattle.igp_cost.proofs.Certificate.{HasSource, IsCertified, edge_metric, certified_cost, certified_hop}
use Rattle.igp_cost.proofs.Converse.{tree_certified}

pub swap : (edges : Edges) (a b : Addr) (m : ℕ) → HasEdge edges a b m → HasEdge edges b a m
swap edges a b m (inl e) = inr e
swap edges a b m (inr e) = inl e

-- a link that offers a label is an edge that backs it
pub by_link : (nodes : Nodes) (edges : Edges) (links : List Link) → IsWired nodes edges links →
    (t : Reached) (x : Addr) (l : Label) → IsOffered nodes links t x l →
    HasSource nodes edges (source_of t) (label_in t) x l
by_link nodes edges links wired t x l o = record {
  before = addr_at nodes o.link.to;
  metric = o.link.metric;
  label = o.offers.label;
  edge = swap edges x (addr_at nodes o.link.to) o.link.metric
      (subst (λ y. HasEdge edges y (addr_at nodes o.link.to) o.link.metric) o.ends (wired.are_edges o.link o.among));
  inside = o.offers.inside;
  is = o.offers.is;
  enough = o.offers.enough;
}

-- the metrics of the edges before the change
pub old_metrics : (change : Change) (old new : Edges) → IsChange change old new → All (λ e. IsMetric e.2) new →
    All (λ e. IsMetric e.2) old
old_metrics change old new is all k d lt =
    let e = get_or old k d in
    elim (is.lost e.0 e.1 e.2 (inl (k, lt, get_or_default old k e d lt))) [
      | inl kept ↦ edge_metric new all e.0 e.1 e.2 kept
      | inr gone ↦ gone.metric
    ]

-- what holds of both ends holds of an end
at_end : (change : Change) (P : Addr → Type 0) (a b : Addr) → AreEndsOf change a b → P (ends_of change).0 →
    P (ends_of change).1 → P b
at_end change P a b (inl e) first second = subst P (sym e.1) second
at_end change P a b (inr e) first second = subst P (sym e.1) first

over_ends : (change : Change) (P : Addr → Addr → Type 0) (a b : Addr) → AreEndsOf change a b →
    P (ends_of change).0 (ends_of change).1 → P (ends_of change).1 (ends_of change).0 → P a b
over_ends change P a b (inl e) first second =
    subst (λ x. P x b) (sym e.0) (subst (λ y. P (ends_of change).0 y) (sym e.1) first)
over_ends change P a b (inr e) first second =
    subst (λ x. P x b) (sym e.0) (subst (λ y. P (ends_of change).1 y) (sym e.1) second)

module _ (change : Change) (nodes : Nodes) (old new : Edges) (links : List Link) (wired : IsWired nodes new links)
    (t : Reached) (is_change : IsChange change old new) (tree : IsTreeOf nodes old (source_of t) t)
    (loses : LosesNothing change nodes links t) (gains : GainsNothing change nodes t) where
  abbrev r : Addr
  r = source_of t

  abbrev L : Addr → Option Label
  L x = label_in t x

  all : All (λ e. IsMetric e.2) new
  all = metrics nodes new links wired

  before : IsCertified nodes old r L
  before = tree_certified nodes old r t (old_metrics change old new is_change all) tree

  closed : (a b : Addr) (m : ℕ) (l : Label) → HasEdge new a b m → IsTrue (share_as nodes r a) → L a ≡ Some l →
      (k : Label) × (L b ≡ Some k) × IsNotAfter k (via r a b m l)
  closed a b m l edge inside is = elim (is_change.gained a b m edge) [
    | inl kept ↦ before.closed a b m l kept inside is
    | inr fresh ↦ let worse = gains m fresh.metric in
        over_ends change (λ x y. OffersNoBetter nodes t x y m) a b fresh.ends worse.0 worse.1 l inside is
  ]

  backed : (x : Addr) (l : Label) → L x ≡ Some l → (x ≡ r) ⊎ HasSource nodes new r L x l
  backed x l is = elim (before.backed x l is) [
    | inl start ↦ inl start
    | inr s ↦ elim (is_change.lost s.before x s.metric s.edge) [
      | inl kept ↦ inr (record {
        before = s.before;
        metric = s.metric;
        label = s.label;
        edge = kept;
        inside = s.inside;
        is = s.is;
        enough = s.enough;
      })
      | inr gone ↦
          let held = loses gone.loses in
          elim (at_end change (IsHeld nodes links t) s.before x gone.ends held.0 held.1 l is) [
            | inl start ↦
                inl start
            | inr o ↦ inr (by_link nodes new links wired t x l o)
          ]
    ]
  ]

  pub after : IsCertified nodes new r (label_in t)
  after = record { metrics = all; start = before.start; closed = closed; backed = backed }

  pub stays : IsTreeOf nodes new (source_of t) t
  stays = record {
    source = refl;
    ascending = tree.ascending;
    costs = certified_cost nodes new r L after;
    first_hops = certified_hop nodes new r L after;
  }

-- and it is the whole tree
pub mapped : (f : Addr → Option Label) (nodes : Nodes) (i : ℕ) → i < length nodes →
    label_at (map (λ n. f n.0) nodes) i ≡ f (addr_at nodes i)
mapped f [] i lt = absurd (omega arith)
mapped f (node ∷ nodes) zero lt = refl
mapped f (node ∷ nodes) (suc i) lt = mapped f nodes i (omega arith)

pub same_length : (f : Addr → Option Label) (nodes : Nodes) → length (map (λ n. f n.0) nodes) ≡ length nodes
same_length f [] = refl
same_length f (node ∷ nodes) = ap suc (same_length f nodes)

module _ (nodes : Nodes) (edges : Edges) (links : List Link) (wired : IsWired nodes edges links) (t : Reached) (s : ℕ)
    (found : IsFound nodes (source_of t) s) (certified : IsCertified nodes edges (source_of t) (label_in t))
    (tree : IsTreeOf nodes edges (source_of t) t) where
  abbrev labels : Labels
  labels = map (λ n. label_in t n.0) nodes

  abbrev rebuilt : Reached
  rebuilt = record { source = source_of t; labels = rows_of nodes labels }

  alike : (i : ℕ) → i < length nodes → label_in rebuilt (addr_at nodes i) ≡ label_in t (addr_at nodes i)
  alike i lt = row_at nodes labels wired.rising (same_length (label_in t) nodes) i lt ∙ mapped (label_in t) nodes i lt

  alike_found : (x : Addr) (i : ℕ) → i < length nodes → addr_at nodes i ≡ x → label_in rebuilt x ≡ label_in t x
  alike_found x i lt same = subst (λ y. label_in rebuilt y ≡ label_in t y) same (alike i lt)

  ends_within : (link : Link) → Contains links link → (link.from < length nodes) × (link.to < length nodes)
      × IsMetric link.metric
  ends_within link among = All-contains (λ (l : Link). (l.from < length nodes) × (l.to < length nodes)
      × IsMetric l.metric) links link wired.within among

  alike_anywhere : (x : Addr) → label_in rebuilt x ≡ label_in t x
  alike_anywhere x = by (label_in rebuilt x) refl (label_in t x) refl
    where
      by : (o : Option Label) → label_in rebuilt x ≡ o → (p : Option Label) → label_in t x ≡ p →
          label_in rebuilt x ≡ label_in t x
      by None is_o None is_p = is_o ∙ sym is_p
      by (Some l) is_o p is_p =
          let row = placed no_row (rows_of nodes labels) x l is_o in
          let node = row_node nodes labels row.place row.within in
          alike_found x node.place node.within (node.same ∙ row.key)
      by None is_o (Some l) is_p = elim (certified.backed x l is_p) [
        | inl start ↦ alike_found x s found.within (found.same ∙ sym start)
        | inr from ↦ let h = wired.has_links from.before x from.metric from.edge in
            alike_found x h.link.to (ends_within h.link h.among).1 h.to
      ]

  is_rebuilt : t ≡ rebuilt
  is_rebuilt =
      let rows : t.labels ≡ rows_of nodes labels = same_list no_row t.labels (rows_of nodes labels)
      (rises_from_sorted no_row t.labels tree.ascending) (rows_rise nodes labels wired.rising)
      (λ x. sym (alike_anywhere x)) in
      let made : List (Addr × Label) → Reached = λ rows. record { source = source_of t; labels = rows } in
      ap made rows

  pub is_whole : t ≡ tree_of nodes edges (source_of t)
  is_whole = whole_tree nodes edges (source_of t) labels wired.rising (same_length (label_in t) nodes) t is_rebuilt
      (λ x. one_cost nodes edges (source_of t) x (cost_in t x) (cost nodes edges (source_of t) x) (tree.costs x)
      (cost_exact nodes edges (source_of t) x))
      (λ x. one_first_hop nodes edges (source_of t) x (first_hop_in t x) (first_hop nodes edges (source_of t) x)
      (tree.first_hops x) (first_hop_exact nodes edges (metrics nodes edges links wired) (source_of t) x))

-- what `keeps` ensures
pub stays_whole : (change : Change) (nodes : Nodes) (new : Edges) (links : List Link) → IsWired nodes new links →
    (t : Reached) (s : ℕ) → IsFound nodes (source_of t) s → LosesNothing change nodes links t →
    GainsNothing change nodes t → Stays change nodes new t
stays_whole change nodes new links wired t s found loses gains old is_change was =
    let certified = after change nodes old new links wired t is_change was loses gains in
    let least = stays change nodes old new links wired t is_change was loses gains in
    record { least = least; whole = is_whole nodes new links wired t s found certified least }

pub both_true : (b : Bool) (P Q R : Type 0) → (P → Q → R) → OnTrue b P → OnTrue b Q → OnTrue b R
both_true true P Q R f p q = f p q
both_true false P Q R f p q = tt
