use Rattle.std.proofs.Common.{List, length, sym, ap, ◌∙◌, ◌++◌, subst, append-nil, rules}
use Rattle.std.specs.Bool.{OnTrue}
use Rattle.net_prefix.specs.declared.addr.Addr.{Addr}
use Rattle.igp_cost.specs.declared.label.Label.{Label}
use Rattle.igp_cost.specs.Trees.{Reached}
use Rattle.igp_cost.specs.Wired.{AreAscending, AreBelow}
use Rattle.igp_cost.proofs.Apart.{front_rises, back_rises, below_by_back}
use Rattle.igp_cost.proofs.Codes.{on_true}
use Rattle.igp_cost.proofs.least_trees.tree.Tree.is_below.Goals as goal

pub is_above-requires-else-is_empty : goal.is_above-requires-else-is_empty
is_above-requires-else-is_empty c = subst AreAscending (sym c.as_slice-last.ensures)
    (back_rises c.self.inside.rows c.self.inside.last c.self.invariant)

pub returns-else-is_empty : goal.returns-else-is_empty
returns-else-is_empty c =
    let rows = c.self.inside.rows in
    let last = c.self.inside.last in
    let above = subst (λ (l : List (Addr × Label)). OnTrue c.is_above-else-is_empty.result (AreBelow l c.args.to))
    c.as_slice-last.ensures c.is_above-else-is_empty.ensures in
    let whole = ap (λ (t : Reached). t.labels) c.self.view_is in
    on_true c.is_above-else-is_empty.result (AreBelow last c.args.to) (AreBelow c.args.self.now.labels c.args.to)
    (λ below. subst (λ (l : List (Addr × Label)). AreBelow l c.args.to) whole
    (below_by_back rows last c.args.to c.self.invariant (search rules) below)) above
