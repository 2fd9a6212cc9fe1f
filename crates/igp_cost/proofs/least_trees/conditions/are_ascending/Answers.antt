use Rattle.std.proofs.Common.{◌≡◌, ℕ, ◌-◌, ◌<◌, get_or, length, refl, ap, arith}
use mathlib.Core.Bool.{false≢true}
use Rattle.std.proofs.lemmas.List.{get_or_default}
use Rattle.net_prefix.specs.declared.addr.Addr.{Addr}
use Rattle.igp_cost.specs.Walks.{Nodes}
use Rattle.igp_cost.specs.Labels.{nowhere, addr_at}
use Rattle.igp_cost.proofs.Places.{rises_from_sorted, rises_from_steps, sorted_from_rises}
use Rattle.igp_cost.proofs.least_trees.conditions.are_ascending.Goals as goal

-- what was read is the address at its place
read : (nodes : Nodes) (i : ℕ) (d : Addr × ℕ) → i < length nodes → (get_or nodes i d).0.0 ≡ (addr_at nodes i).0
read nodes i d lt = ap (λ (node : Addr × ℕ). node.0.0) (get_or_default nodes i d nowhere lt)

pub returns-then-nodes-at : goal.returns-then-nodes-at
returns-then-nodes-at c =
    let nodes = c.args.nodes.now in
    let at = c.loop-at.at in
    let before = read nodes (at - 1) c.index-nodes-at.result (omega (arith, c.loop-at-test.true)) in
    let here = read nodes at c.index-nodes-at-in-loop-at.result c.loop-at-test.true in (
      (λ h. absurd (false≢true h)),
      (λ sorted. let up = rises_from_sorted nowhere nodes sorted (at - 1) at
          (omega (arith, c.loop-at.auto.at)) c.loop-at-test.true in
          absurd (omega (arith, up, before, here, c.if-nodes-at.true))),
    )

pub returns : goal.returns
returns c = (
  (λ h. sorted_from_rises nowhere c.args.nodes.now
      (rises_from_steps nowhere c.args.nodes.now
      (λ i lt. c.loop-at.invariant i (omega (arith, lt, c.loop-at-test.false))))),
  (λ sorted. refl),
)
