use Rattle.std.proofs.Common.{◌++◌, filter, ap, sym, ◌∙◌}
use Rattle.std.specs.Ordering.{is_gt, is_lt}
use Rattle.net_prefix.specs.Address.{addr_cmp}
use Rattle.net_prefix.specs.Orders.{addr_total}
use Rattle.cell_engine.proofs.Entries.{removed_between}
use Rattle.cell_engine.proofs.route_cell.received_routes.without_sender.Goals as goal

pub returns : goal.returns
returns c =
    let first = filter (λ e. is_gt (addr_cmp c.args.sender e.0)) c.args.routes.now in
    let last = filter (λ e. is_lt (addr_cmp c.args.sender e.0)) c.args.routes.now in
    c.in_ok-add_after.ensures
    ∙ ap (λ l. l ++ last) (c.in_ok-add_before.ensures ∙ ap (λ l. l ++ first) c.new-less.ensures.items)
    ∙ sym (removed_between addr_total c.args.sender c.args.routes.now c.requires)
