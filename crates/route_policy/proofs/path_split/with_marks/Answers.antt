use Rattle.std.proofs.Common.{◌≡◌, ◌≤◌, length, subst, sym, arith}
use Rattle.route_policy.specs.Marks.{AreAllMarked, with_marks}
use Rattle.route_policy.proofs.MarkedNumbers.{all_marked}
use Rattle.route_policy.proofs.path_split.with_marks.Goals as goal

pub invariant_of-result : goal.invariant_of-result
invariant_of-result c =
    let words = c.new-marks.result.words in
    let numbers = c.args.numbers in
    let long : 128 ≤ length words = omega (arith, c.new-marks.ensures) in
    let same : c.add_all.new.self.words ≡ with_marks words numbers = cc in
    subst (AreAllMarked numbers) (sym same) (all_marked words numbers long)
