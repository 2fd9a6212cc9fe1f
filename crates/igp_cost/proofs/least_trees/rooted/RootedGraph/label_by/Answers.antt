use Rattle.std.proofs.Common.{sym, ◌∙◌}
use Rattle.igp_cost.proofs.InPlace.{said_by_row}
use Rattle.igp_cost.proofs.least_trees.rooted.RootedGraph.label_by.Goals as goal

pub returns : goal.returns
returns c = c.known.ensures
    ∙ sym (said_by_row c.args.self.now.nodes.now c.args.self.now.source c.args.rows.now c.args.self.now.rising
    c.requires.same_length c.args.at _ c.requires.at)
