use Rattle.std.proofs.Common.{Option, IfSome, ◌<◌, sym, subst, refl}
use Rattle.igp_cost.specs.declared.label.Label.{Label}
use Rattle.igp_cost.specs.Labels.{label_at}
use Rattle.igp_cost.proofs.Codes.{small_passed}
use Rattle.igp_cost.proofs.Kernel.{small}
use Rattle.igp_cost.proofs.least_trees.rooted.RootedGraph.passed_of.Goals as goal

pub code_of-requires : goal.code_of-requires
code_of-requires c =
    let label = label_at c.args.labels.now c.loop-at.at in
    let here = small_passed c.args.self.now.nodes.now c.args.self.now.source c.loop-at.at label
    (small c.args.self.now.nodes.now c.args.labels.now c.args.self.now.size c.requires label c.loop-at.at refl) in
    subst (λ (o : Option Label). IfSome o (λ l. l.cost < 1073741824)) (sym c.passed_by.ensures) here
