use Rattle.std.proofs.Common.{◌++◌, sym, ap, ◌∙◌}
use Rattle.std.proofs.lemmas.List.{append-nil}
use Rattle.cell_engine.proofs.Skipped.{none_of_table}
use Rattle.cell_engine.proofs.edits.moved_cells.add_table.Goals as goal

pub returns-then-leaves : goal.returns-then-leaves
returns-then-leaves g c =
    let b = c.args.becoming.now in
    let before = c.args.moved.now in
    sym (ap (λ l. before ++ l) (none_of_table b c.hops.result c.args.table.now c.hops.ensures c.if-leaves.ensures)
    ∙ append-nil before)
