use Rattle.std.proofs.Common.{ℕ, List, ◌≤◌, All, length, sym, subst}
use Rattle.igp_cost.specs.declared.least_trees.link.Link.{Link}
use Rattle.igp_cost.specs.Walks.{Nodes}
use Rattle.igp_cost.specs.Labels.{IsWithin, StandsByStart}
use Rattle.igp_cost.specs.Wired.{IsRising}
use Rattle.igp_cost.proofs.graph.Graph.rooted.Goals as goal

pub invariant_of-result-clause-rising : goal.invariant_of-result-clause-rising
invariant_of-result-clause-rising c = subst IsRising (sym c.as_slice-nodes.ensures) c.self.invariant.0.rising

pub invariant_of-result-clause-within : goal.invariant_of-result-clause-within
invariant_of-result-clause-within c =
    subst (λ (n : Nodes). IsWithin n c.deref.result.now) (sym c.as_slice-nodes.ensures)
    (subst (λ (k : List Link). IsWithin c.self.inside.nodes k) (sym c.deref.ensures.value) c.self.invariant.0.within)

pub invariant_of-result-clause-bounds : goal.invariant_of-result-clause-bounds
invariant_of-result-clause-bounds c =
    subst (λ (k : List Link). All (λ s. s ≤ length k) c.deref-2.result.now) (sym c.deref.ensures.value)
    (subst (λ (p : List ℕ). All (λ s. s ≤ length c.self.inside.links.items) p)
    (sym c.deref-2.ensures.value) c.self.invariant.1.within)

pub invariant_of-result-clause-each : goal.invariant_of-result-clause-each
invariant_of-result-clause-each c =
    subst (λ (n : Nodes). StandsByStart n c.deref.result.now c.deref-2.result.now) (sym c.as_slice-nodes.ensures)
    (subst (λ (k : List Link). StandsByStart c.self.inside.nodes k c.deref-2.result.now) (sym c.deref.ensures.value)
    (subst (λ (p : List ℕ). StandsByStart c.self.inside.nodes c.self.inside.links.items p)
    (sym c.deref-2.ensures.value) c.self.invariant.1.each))
