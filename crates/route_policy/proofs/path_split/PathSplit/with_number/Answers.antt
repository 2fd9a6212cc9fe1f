use Rattle.std.proofs.Common.{◌≡◌, ◌∷◌, ◌++◌, [], subst, sym, arith}
use Rattle.route_policy.specs.Marks.{AreAllMarked, with_mark}
use Rattle.route_policy.proofs.MarkedNumbers.{one_more_marked}
use Rattle.route_policy.proofs.path_split.PathSplit.with_number.Goals as goal

pub invariant_of-result : goal.invariant_of-result
invariant_of-result c =
    let words = c.self.inside.marks.words in
    let before = c.self.inside.numbers in
    let asn = c.args.asn in
    let marks : c.add.new.self.words ≡ with_mark words asn = cc in
    let numbers : c.of.result ≡ before ++ asn ∷ [] = grind (
      arith,
      c.of.ensures,
      c.in_ok-push.ensures.items,
      c.in_ok-extend_from_slice.ensures.items,
      c.in_ok-numbers.ensures.items,
      c.as_slice-2.ensures,
    ) in
    subst (AreAllMarked c.of.result) (sym marks) (subst (λ ns. AreAllMarked ns (with_mark words asn)) (sym numbers)
    (one_more_marked words before asn c.self.invariant))
