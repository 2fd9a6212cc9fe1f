use Rattle.std.proofs.Common.{sym, ◌∙◌}
use Rattle.igp_cost.proofs.InPlace.{said_by_row}
use Rattle.igp_cost.proofs.least_trees.rooted.RootedGraph.is_unmoved_at.Goals as goal

pub returns : goal.returns
returns c =
    let nodes = c.args.self.now.nodes.now in
    let s = c.args.self.now.source in
    let new = said_by_row nodes s c.args.rows.now c.args.self.now.rising c.requires.compared.1
    c.args.at _ c.requires.at in
    let old = said_by_row nodes s c.args.before.now c.args.self.now.rising c.requires.compared.0
    c.args.at _ c.requires.at in
    (λ is. new ∙ c.is_same.ensures.0 is ∙ sym old, λ same. c.is_same.ensures.1 (sym new ∙ same ∙ old))
