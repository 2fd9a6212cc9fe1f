use Rattle.std.proofs.Common.{sym, subst}
use Rattle.route_tests.proofs.Matches.{IsAnswer, one_answer}
use Rattle.route_tests.proofs.table_use.longest_of_both.Goals as goal

pub returns : goal.returns
returns g c same =
    one_answer (g.T.PrefixTable.table c.args.first.now) c.args.addr c.args.most c.longest_in.result
    c.longest_in-2.result (record { found = c.longest_in.ensures.found; none = c.longest_in.ensures.none })
    (subst (λ m. IsAnswer m c.args.addr c.args.most c.longest_in-2.result) (sym same)
    (record { found = c.longest_in-2.ensures.found; none = c.longest_in-2.ensures.none }))
