use Rattle.std.proofs.Common.{◌≡◌, ℕ, ◌<◌, IsTrue, get_or, length, refl, sym, ap, subst, ◌∙◌, inl, inr, arith}
use mathlib.Core.Bool.{false≢true}
use Rattle.std.proofs.lemmas.Bool.{cases_lt}
use Rattle.std.proofs.lemmas.List.{get_or_default}
use Rattle.net_prefix.specs.declared.addr.Addr.{Addr}
use Rattle.igp_cost.specs.Topology.{is_node}
use Rattle.igp_cost.specs.Labels.{nowhere}
use Rattle.igp_cost.proofs.Places.{rises_from_sorted}
use Rattle.igp_cost.proofs.least_trees.conditions.have_nodes.Goals as goal

pub are_nodes-requires : goal.are_nodes-requires
are_nodes-requires c = rises_from_sorted nowhere c.args.nodes.now c.requires

pub returns-then-not-are_nodes : goal.returns-then-not-are_nodes
returns-then-not-are_nodes c =
    let edges = c.args.edges.now in
    let here = λ (all : (k : ℕ) (d : Addr × Addr × ℕ) → k < length edges →
    IsTrue (is_node c.args.nodes.now (get_or edges k d).0)
    × IsTrue (is_node c.args.nodes.now (get_or edges k d).1)).
    subst (λ (e : Addr × Addr × ℕ). IsTrue (is_node c.args.nodes.now e.0) × IsTrue (is_node c.args.nodes.now e.1))
    (sym c.loop-one-item.is) (all c.loop-one.one-index c.loop-one-item.result c.loop-one-test.true) in (
      (λ h. absurd (false≢true h)),
      (λ all. absurd (false≢true (sym c.if-not-are_nodes.true ∙ c.are_nodes.ensures.1 (here all)))),
    )

pub loop-one-preserved : goal.loop-one-preserved
loop-one-preserved c k d lt = elim (cases_lt k c.loop-one.one-index) [
  | inl old ↦ c.loop-one.invariant k d old
  | inr now ↦
      let edges = c.args.edges.now in
      let same : c.loop-one.one-index ≡ k = omega arith in
      let read = c.loop-one-item.is
      ∙ get_or_default edges c.loop-one.one-index c.loop-one-item.result d c.loop-one-test.true
      ∙ ap (λ n. get_or edges n d) same in
      subst (λ (e : Addr × Addr × ℕ). IsTrue (is_node c.args.nodes.now e.0)
      × IsTrue (is_node c.args.nodes.now e.1)) read (c.are_nodes.ensures.0 c.if-not-are_nodes.false)
]

pub returns : goal.returns
returns c = ((λ h k d lt. c.loop-one.invariant k d (omega (arith, lt, c.loop-one-test.false))), (λ all. refl))
