use Rattle.std.proofs.Common.{◌≡◌, ◌-◌, ◌<◌, length, get_or, ap, inl, inr, arith}
use Rattle.std.proofs.lemmas.Bool.{cases_lt, OnTrue_from}
use Rattle.std.proofs.lemmas.Bool.Decides.{nat_tests}
use Rattle.net_prefix.specs.declared.addr.Addr.{Addr}
use Rattle.igp_cost.specs.Wired.{no_row, AreBelow}
use Rattle.igp_cost.proofs.least_trees.tree.is_above.Goals as goal

pub returns-else-count-eq0 : goal.returns-else-count-eq0
returns-else-count-eq0 c = OnTrue_from _ (AreBelow c.args.rows.now c.args.to) (λ holds i lt.
    let rows = c.args.rows.now in
    let last = length rows - 1 in
    let below : (get_or rows last no_row).0.0 < c.args.to.0 = grind (arith, nat_tests, holds) in
    elim (cases_lt i last) [
      | inl before ↦ let rises = c.requires i last before (omega arith) in omega (arith, rises, below)
      | inr after ↦
          let at : i ≡ last = omega arith in
          let here = ap (λ j. (get_or rows j no_row).0.0) at in
          omega (arith, here, below)
    ])
