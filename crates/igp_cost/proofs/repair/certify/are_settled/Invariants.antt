use Rattle.std.proofs.Common.{ℕ, ◌<◌}
use Rattle.igp_cost.specs.Codes.{IsSettledAt}
use Rattle.igp_cost.proofs.repair.certify.are_settled.Given as goal

abbrev pub invariant-loop-at : goal.invariant-loop-at
invariant-loop-at l = (v : ℕ) → v < l.at → IsSettledAt l.source l.codes l.marks v
