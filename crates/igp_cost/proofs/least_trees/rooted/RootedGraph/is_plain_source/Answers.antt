use Rattle.igp_cost.proofs.Elsewhere.{plain_source}
use Rattle.igp_cost.proofs.InPlace.{on_both}
use Rattle.igp_cost.proofs.least_trees.rooted.RootedGraph.is_plain_source.Goals as goal

pub returns-then-extended_is_no_worse : goal.returns-then-extended_is_no_worse
returns-then-extended_is_no_worse c = on_both c.passes_on.result _ _ _
    (plain_source c.args.self.now.nodes.now c.args.self.now.source c.args.rows.now c.args.self.now.rising
    c.requires.same_length c.args.from c.args.at c.args.metric c.args.label _ c.requires.from
    c.if-extended_is_no_worse.ensures.after c.if-extended_is_no_worse.ensures.known)
    c.passes_on.ensures.inside c.passes_on.ensures.elsewhere
