use Rattle.route_tests.proofs.Matches.{own_match}
use Rattle.route_tests.proofs.table_use.put_and_match.Goals as goal

pub returns : goal.returns
returns g c =
    own_match (g.T.PrefixTable.table c.args.table.now) (g.T.PrefixTable.table c.insert.new.self) c.args.prefix
    c.args.value c.len.result c.addr.result c.longest_in.result
    c.len.ensures.block c.addr.ensures c.len.ensures.value c.in_ok-insert.ensures.inserted
    (record { found = c.longest_in.ensures.found; none = c.longest_in.ensures.none })
