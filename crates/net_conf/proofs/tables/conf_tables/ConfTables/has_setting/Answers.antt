use Rattle.std.proofs.Common.{◌∙◌, sym}
use Rattle.net_conf.proofs.Unchanged.{unchanged}
use Rattle.net_conf.proofs.tables.conf_tables.ConfTables.has_setting.Goals as goal

pub returns-clause-same : goal.returns-clause-same
returns-clause-same c same = unchanged c.args.self.now c.args.edit.now c.orders.ensures (sym c.is_so.ensures ∙ same)
