use Rattle.std.proofs.Common.{◌∙◌, not, sym, ap}
use Rattle.std.specs.List.{list_any}
use Rattle.std.specs.BTreeMap.{is_at}
use Rattle.net_conf.specs.Configuration.{ends_cmp}
use Rattle.net_conf.proofs.DownSessions.{up_unless_among, stays_down}
use Rattle.net_conf.proofs.kept.conf_trees.ConfTrees.is_down_then.Goals as goal

pub goes_down-requires-clause-up : goal.goes_down-requires-clause-up
goes_down-requires-clause-up c =
    let s = c.args.self.now in
    let e = c.args.ends in
    up_unless_among s e _ c.requires.there (ap (list_any (is_at (ends_cmp e))) (sym c.requires.down)
    ∙ sym c.contains.ensures ∙ c.if-contains.false)

pub returns-then-contains : goal.returns-then-contains
returns-then-contains c =
    let s = c.args.self.now in
    let e = c.args.ends in
    c.if-contains.true
    ∙ sym (ap not (stays_down s c.args.after.now c.requires.none e.low e.high
    (up_unless_among s e _ c.requires.there (ap (list_any (is_at (ends_cmp e))) (sym c.requires.down)
    ∙ sym c.contains.ensures ∙ c.if-contains.true))))
