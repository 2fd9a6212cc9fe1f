use Rattle.std.proofs.Common.{◌≡◌, ◌≤◌, ◌-◌, true, ltb, length}
use Rattle.std.specs.List.{AllWithin}
use Rattle.igp_cost.specs.declared.least_trees.link.Link.{Link}
use Rattle.igp_cost.proofs.least_trees.wiring.next_start.Given as goal

abbrev pub invariant-loop-next : goal.invariant-loop-next
invariant-loop-next l = record {
  within : l.next ≤ length l.links;
  passed : AllWithin (λ (y : Link). ltb y.from l.at ≡ true) l.links 0 l.next;
}

abbrev pub decreases-loop-next : goal.decreases-loop-next
decreases-loop-next l = length l.links - l.next
