use Rattle.std.proofs.Common.{rules}
use Rattle.igp_cost.specs.Placed.{labels_of}
use Rattle.igp_cost.proofs.Before.{said_same}
use Rattle.igp_cost.proofs.InPlace.{count_of_labels}
use Rattle.igp_cost.proofs.least_trees.rooted.RootedGraph.tree_if_local.Goals as goal

pub returns : goal.returns
returns c =
    let nodes = c.args.self.now.nodes.now in
    let count = count_of_labels nodes c.args.before.now c.requires.before.placed.count in
    let made = count_of_labels nodes c.args.rows.items c.requires.placed.count in
    let known = said_same nodes c.args.self.now.source (labels_of c.args.before.now) c.args.old.now
    c.args.self.now.rising count c.requires.before.known in
    search (rules, made, known)
