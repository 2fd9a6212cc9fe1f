use Rattle.std.proofs.Common.{refl}
use Rattle.igp_cost.proofs.Kernel.{small}
use Rattle.igp_cost.proofs.least_trees.rooted.RootedGraph.codes_of.Goals as goal

pub code_of-requires : goal.code_of-requires
code_of-requires c = small c.args.self.now.nodes.now c.args.labels.now c.args.self.now.size c.requires
    _ c.loop-at.at refl
