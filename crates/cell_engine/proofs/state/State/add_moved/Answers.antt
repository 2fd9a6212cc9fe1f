use Rattle.std.proofs.Common.{◌≡◌, ◌++◌, None, unwrap_or, sym, ap, ◌∙◌}
use Rattle.std.proofs.lemmas.List.{append-nil}
use Rattle.std.specs.FinMap as finite
use Rattle.std.specs.FinMap.Entries.{find}
use Rattle.net_prefix.specs.Address.{addr_cmp}
use Rattle.cell_engine.specs.RouterTables.{table_at}
use Rattle.cell_engine.proofs.Flat.{no_cells}
use Rattle.cell_engine.specs.State.{State}
use Rattle.cell_engine.specs.Becomings.{moved_cells}
use Rattle.cell_engine.proofs.state.State.add_moved.Goals as goal

pub returns-in-None : goal.returns-in-None
returns-in-None g c =
    let ts = c.args.self.now.tables in
    let b = c.args.becoming.now in
    let before = c.args.moved.now in
    let none : find addr_cmp c.address.result ts ≡ None = ap (λ (e : State). find addr_cmp c.address.result e.tables)
    (sym c.self.view_is) ∙ sym c.in-None.ensures in
    sym (
    ap (λ a. before ++ moved_cells b (finite.entries (table_at a ts))) (sym c.address.ensures)
    ∙ ap (λ x. before ++ moved_cells b (finite.entries (unwrap_or x finite.empty))) none
    ∙ ap (λ l. before ++ moved_cells b l) no_cells
    ∙ append-nil before
    )
