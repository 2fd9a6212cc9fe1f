use Rattle.std.proofs.Common.{◌≤◌, ◌-◌, get_or, refl, sym, arith}
use Rattle.std.proofs.lemmas.Bool.{true≢false}
use Rattle.std.proofs.lemmas.Grind.{common_steps}
use Rattle.path_attr.proofs.Order.{not_ascending, ascending_by}
use Rattle.path_attr.proofs.communities.are_ascending.Goals as goal

pub returns-then-numbers-i : goal.returns-then-numbers-i
returns-then-numbers-i c =
    let ns = c.args.numbers.now in
    let le : get_or ns c.loop-i.i 0 ≤ get_or ns (c.loop-i.i - 1) 0 = grind (arith, common_steps) in (
      λ h. absurd (true≢false (sym h)),
      λ asc. absurd (not_ascending ns (c.loop-i.i - 1) c.loop-i.i (omega arith) (omega arith) le asc),
    )

pub returns : goal.returns
returns c = (λ h. ascending_by c.args.numbers.now (λ k lt. c.loop-i.invariant k (omega arith)), λ asc. refl)
