use Rattle.std.proofs.Common.{◌≡◌, ◌∙◌, false, not, ◌||◌, sym, ap}
use Rattle.std.specs.BTreeMap.{is_at}
use Rattle.net_conf.specs.Concerned.{is_among}
use Rattle.net_conf.specs.Configuration.{ends_of, ends_cmp}
use Rattle.net_conf.proofs.Carry.{both_false}
use Rattle.net_conf.proofs.LinkConcerns.{stays_away}
use Rattle.net_conf.proofs.kept.conf_trees.ConfTrees.goes_down.Goals as goal

pub returns-else-may_turn : goal.returns-else-may_turn
returns-else-may_turn c =
    let e = c.args.ends in
    let ks = c.args.moved.now.keys in
    let all : ((is_among e.low ks || is_among e.high ks) || is_at (ends_cmp (ends_of e.low e.high)) c.args.link)
    ≡ false = sym c.may_turn.ensures ∙ c.if-may_turn.false in
    let apart = both_false _ _ all in
    let ends = both_false _ _ apart.0 in
    c.if-may_turn.false ∙ sym
    (ap not (stays_away c.args.self.now c.args.after.now c.args.link c.requires.linked e.low e.high apart.1
    (c.requires.moved e.low ends.0 c.requires.low) (c.requires.moved e.high ends.1 c.requires.high)
    ∙ c.requires.up))
