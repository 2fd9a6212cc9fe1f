use Rattle.std.proofs.Common.{sym, ap, ◌∙◌, ◌++◌, subst, append-nil}
use Rattle.igp_cost.specs.Placed.{labels_of}
use Rattle.igp_cost.specs.Wired.{AreAscending}
use Rattle.igp_cost.proofs.Rows.{rows_rise}
use Rattle.igp_cost.proofs.least_trees.tree.Tree.from_rows.Goals as goal

pub invariant_of-result : goal.invariant_of-result
invariant_of-result c =
    let rows = c.in_ok-of.field-0 in
    let is = ap (λ last. rows ++ last) c.empty.ensures ∙ append-nil rows ∙ c.in_ok-of.ensures ∙ c.in_ok-rows.ensures in
    subst AreAscending (sym is) (rows_rise c.args.nodes.now (labels_of c.args.rows.items) c.requires.rising)
