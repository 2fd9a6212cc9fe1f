use Rattle.std.proofs.Common.{◌≡◌, ◌≤◌, ltb, false, get_or, ap, arith}
use Rattle.std.proofs.lemmas.Bool.Decides.{nat_tests}
use Rattle.std.proofs.lemmas.List.{get_or_default}
use Rattle.igp_cost.specs.declared.least_trees.link.Link.{Link}
use Rattle.igp_cost.proofs.least_trees.wiring.next_start.Goals as goal

pub returns-else-links-next-clause-point : goal.returns-else-links-next-clause-point
returns-else-links-next-clause-point c =
    let links = c.args.links.now in
    let n = c.loop-next.next in
    let later : (k : _) (d : Link) → n ≤ k → _ → ltb (get_or links k d).from c.args.at ≡ false = λ k d from lt.
    let here = ap (λ (l : Link). l.from)
    (get_or_default links n (record { from = 0; to = 0; metric = 0 }) d c.loop-next-test.true) in
    let rises = c.requires.sorted n k d from lt in
    let stays : c.args.at ≤ (get_or links k d).from = omega (arith, c.if-links-next.false, here, rises) in
    grind (arith, nat_tests, stays)
    in (c.loop-next.invariant.passed, later)
