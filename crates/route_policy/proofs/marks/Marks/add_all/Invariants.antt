use Rattle.std.proofs.Common.{◌≡◌, drop}
use Rattle.route_policy.specs.Marks.{with_marks}
use Rattle.route_policy.proofs.marks.Marks.add_all.Given as goal

abbrev pub invariant-loop-number : goal.invariant-loop-number
invariant-loop-number l = with_marks l.fn.self.words l.numbers ≡ with_marks l.self.words (drop l.number-index l.numbers)
