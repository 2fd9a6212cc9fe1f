use Rattle.std.proofs.Common.{Some, cond, ap, ◌∙◌}
use Rattle.std.specs.FinMap as map
use Rattle.net_prefix.specs.Orders.{prefix_total}
use Rattle.route_tests.proofs.Matches.{other_keys}
use Rattle.route_tests.proofs.table_use.put_and_get_other.Goals as goal

pub returns : goal.returns
returns g c other =
    c.copied.ensures ∙ c.get.ensures ∙ ap (λ m. map.get m c.args.other) c.in_ok-insert.ensures.inserted
    ∙ map.get-insert prefix_total (g.T.PrefixTable.table c.args.table.now) c.args.prefix c.args.value c.args.other
    ∙ ap (λ b. cond b (Some c.args.value) (map.get (g.T.PrefixTable.table c.args.table.now) c.args.other))
    (other_keys c.args.other c.args.prefix other)
