use Rattle.std.proofs.Common.{◌≡◌, drop}
use Rattle.std.specs.List.{fold}
use Rattle.path_attr.specs.Path.{numbers_of}
use Rattle.route_policy.specs.PathSplit.{first_among, first_held}
use Rattle.route_policy.proofs.path_split.PathSplit.first_held.Given as goal

abbrev pub invariant-loop-segment : goal.invariant-loop-segment
invariant-loop-segment l =
    first_held l.self.numbers l.segment-items
    ≡ fold (λ first s. first_among l.self.numbers first (numbers_of s)) l.first (drop l.segment-index l.segment-items)
