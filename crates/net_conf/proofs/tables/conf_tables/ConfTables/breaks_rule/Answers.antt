use Rattle.std.proofs.Common.{◌∙◌, ap, sym}
use Rattle.net_conf.specs.Edits.{sets_too_much, breaks_rule}
use Rattle.net_conf.proofs.tables.conf_tables.ConfTables.breaks_rule.Goals as goal

pub returns-in-Rule : goal.returns-in-Rule
returns-in-Rule c = c.sets_too_much.ensures
    ∙ ap (λ external. sets_too_much external c.in-Rule.side c.in-Rule.rule.act) c.is_external.ensures
    ∙ ap (breaks_rule c.args.self.now) (sym c.in-Rule.is)
