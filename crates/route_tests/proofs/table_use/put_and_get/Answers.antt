use Rattle.std.proofs.Common.{Some, cond, ap, ◌∙◌}
use Rattle.std.specs.FinMap as map
use Rattle.std.specs.Ordering.{is_eq}
use Rattle.std.specs.Cmp.{tied_itself}
use Rattle.net_prefix.specs.Orders.{prefix_total}
use Rattle.route_tests.proofs.table_use.put_and_get.Goals as goal

pub returns-clause-value : goal.returns-clause-value
returns-clause-value g c =
    c.copied.ensures ∙ c.get.ensures ∙ ap (λ m. map.get m c.args.prefix) c.in_ok-insert.ensures.inserted
    ∙ map.get-insert prefix_total (g.T.PrefixTable.table c.args.table.now) c.args.prefix c.args.value c.args.prefix
    ∙ ap (λ o. cond (is_eq o) (Some c.args.value) (map.get (g.T.PrefixTable.table c.args.table.now) c.args.prefix))
    (tied_itself prefix_total c.args.prefix)
