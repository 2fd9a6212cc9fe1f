use Rattle.std.proofs.Common.{◌≡◌, drop}
use Rattle.route_policy.specs.PathSplit.{first_among}
use Rattle.route_policy.proofs.path_split.PathSplit.first_among.Given as goal

abbrev pub invariant-loop-number : goal.invariant-loop-number
invariant-loop-number l = first_among l.self.numbers l.first l.numbers ≡ first_among l.self.numbers l.least
    (drop l.number-index l.numbers)
