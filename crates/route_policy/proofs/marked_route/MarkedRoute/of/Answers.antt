use Rattle.std.proofs.Common.{◌≤◌, length, arith}
use Rattle.std.proofs.Common.{◌≡◌, subst, sym}
use Rattle.route_policy.specs.Marks.{AreMarked, with_path}
use Rattle.route_policy.proofs.MarkedNumbers.{path_marked}
use Rattle.route_policy.proofs.marked_route.MarkedRoute.of.Goals as goal

pub invariant_of-result : goal.invariant_of-result
invariant_of-result c =
    let words = c.new-marks.result.words in
    let path = c.args.attr.now.path in
    let long : 128 ≤ length words = omega (arith, c.new-marks.ensures) in
    let same : c.add_path.new.self.words ≡ with_path words path = cc in
    subst (AreMarked path) (sym same) (path_marked words path long)
