-- What a comparison of labels tells of a link from a node other than the source.
use Rattle.std.proofs.Common.{◌≡◌, ℕ, ◌+◌, ◌<◌, ◌≤◌, ◌≢◌, List, length, get_or, Some, if◌then◌else◌, IsTrue, sym, ap, ◌∙◌, subst, arith}
use Rattle.std.proofs.lemmas.Option.{same_Some}
use Rattle.net_prefix.specs.declared.addr.Addr.{Addr}
use Rattle.igp_cost.specs.declared.label.Label.{Label}
use Rattle.igp_cost.specs.Walks.{Nodes, share_as}
use Rattle.igp_cost.specs.Labels.{IsNotAfter, addr_at}
use Rattle.igp_cost.specs.Offers.{via, Offers, OffersNoBetter}
use Rattle.igp_cost.specs.Trees.{label_in}
use Rattle.igp_cost.specs.Wired.{IsRising}
use Rattle.igp_cost.specs.Placed.{tree_in}
use Rattle.igp_cost.proofs.Codes.{test_false}
use Rattle.igp_cost.proofs.InPlace.{known_some, said_by_row}

-- a label, further on by a metric
abbrev pub further : Label → ℕ → Label
further l m = record { cost = l.cost + m; hop = l.hop }

-- elsewhere than at the source an edge offers the same first hop
hop_elsewhere : (r a b : Addr) (m : ℕ) (l : Label) → a.0 ≢ r.0 → via r a b m l ≡ further l m
hop_elsewhere r a b m l differs =
    let made : Addr → Label = λ h. record { cost = l.cost + m; hop = h } in
    ap (λ t. made (if t then b else l.hop)) (test_false a.0 r.0 differs)

module _ (nodes : Nodes) (s : ℕ) (rows : List (Addr × Label)) (rising : IsRising nodes)
    (same : length rows ≡ length nodes) where
  pub plain_gain : (at to m : ℕ) (label : Label) (d : Addr × Label) → to < length nodes →
      label_in (tree_in nodes s rows) (addr_at nodes at) ≡ Some label → (addr_at nodes at).0 ≢ (addr_at nodes s).0 →
      IsNotAfter (get_or rows to d).1 (further label m) → (get_or rows to d).1.cost ≤ 268500991 →
      OffersNoBetter nodes (tree_in nodes s rows) (addr_at nodes at) (addr_at nodes to) m
  plain_gain at to m label d lt is elsewhere after limited x inside is_x =
      let there = (get_or rows to d).1 in
      let said = said_by_row nodes s rows rising same to d lt ∙ known_some there (λ q. omega (arith, limited, q)) in
      let x_is : x ≡ label = same_Some x label (sym is_x ∙ is) in
      let Good : Label → Type 0 =
      λ y. IsNotAfter there (via (addr_at nodes s) (addr_at nodes at) (addr_at nodes to) m y) in (
        there,
        said,
        subst Good (sym x_is)
            (subst (IsNotAfter there)
            (sym (hop_elsewhere (addr_at nodes s) (addr_at nodes at) (addr_at nodes to) m label elsewhere)) after),
      )

  pub plain_source : (from at m : ℕ) (label : Label) (d : Addr × Label) → from < length nodes →
      IsNotAfter (further (get_or rows from d).1 m) label → (get_or rows from d).1.cost < 4294967295 →
      IsTrue (share_as nodes (addr_at nodes s) (addr_at nodes from)) → (addr_at nodes from).0 ≢ (addr_at nodes s).0 →
      Offers nodes (tree_in nodes s rows) (addr_at nodes from) (addr_at nodes at) m label
  plain_source from at m label d lt after limited inside elsewhere =
      let there = (get_or rows from d).1 in
      record {
        label = there;
        inside = inside;
        is = said_by_row nodes s rows rising same from d lt ∙ known_some there (λ q. omega (arith, limited, q));
        enough = subst (λ y. IsNotAfter y label)
            (sym (hop_elsewhere (addr_at nodes s) (addr_at nodes from) (addr_at nodes at) m there elsewhere)) after;
      }
