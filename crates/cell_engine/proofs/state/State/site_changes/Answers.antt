use Rattle.std.proofs.Common.{◌≡◌, None, option_map, option_copied, unwrap_or, sym, ap, ◌∙◌}
use Rattle.std.specs.FinMap as finite
use Rattle.std.specs.FinMap.Entries.{find}
use Rattle.net_prefix.specs.Address.{addr_cmp}
use Rattle.cell_engine.specs.Changes.{router_changes}
use Rattle.cell_engine.specs.Moves.{moves}
use Rattle.cell_engine.proofs.Flat.{no_cells}
use Rattle.cell_engine.specs.CellEdits.{whole_changes}
use Rattle.cell_engine.proofs.state.State.site_changes.Goals as goal

pub returns-in_default : goal.returns-in_default
returns-in_default g c =
    let r = c.args.router in
    let before = c.args.self.now.conf in
    let after = c.args.conf.now in
    let none : find addr_cmp r c.args.self.now.tables ≡ None = sym c.table.ensures
    ∙ ap (λ o. option_map g.T.PrefixTable.table (option_copied o)) c.in_default.is in
    ap (whole_changes c.args.self.now.tables) c.new.ensures
    ∙ sym (
    ap (λ x. router_changes (moves before after) before after r (finite.entries (unwrap_or x finite.empty))) none
    ∙ ap (λ l. router_changes (moves before after) before after r l) no_cells
    )
