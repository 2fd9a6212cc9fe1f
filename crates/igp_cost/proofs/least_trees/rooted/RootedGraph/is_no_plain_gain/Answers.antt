use Rattle.igp_cost.proofs.Elsewhere.{plain_gain}
use Rattle.igp_cost.proofs.InPlace.{on_both}
use Rattle.igp_cost.proofs.least_trees.rooted.RootedGraph.is_no_plain_gain.Goals as goal

pub returns : goal.returns
returns c = on_both c.is_no_worse_than_extended.result _ _ _
    (plain_gain c.args.self.now.nodes.now c.args.self.now.source c.args.rows.now c.args.self.now.rising
    c.requires.same_length c.args.at c.args.to c.args.metric c.args.label _ c.requires.to c.requires.plain.0
    c.requires.plain.2)
    c.is_no_worse_than_extended.ensures.after c.is_no_worse_than_extended.ensures.limited
