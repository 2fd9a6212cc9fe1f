use Rattle.std.proofs.Common.{◌++◌, ◌∷◌, [], filter, ap, sym, ◌∙◌, append_assoc}
use Rattle.std.specs.Ordering.{is_gt, is_lt}
use Rattle.net_prefix.specs.Address.{addr_cmp}
use Rattle.net_prefix.specs.Orders.{addr_total, addr_exact}
use Rattle.cell_engine.proofs.Entries.{inserted_between}
use Rattle.cell_engine.proofs.route_cell.received_routes.with_route.Goals as goal

pub returns : goal.returns
returns c =
    let k = c.args.sender in
    let first = filter (λ e. is_gt (addr_cmp k e.0)) c.args.routes.now in
    let last = filter (λ e. is_lt (addr_cmp k e.0)) c.args.routes.now in
    let front = c.in_ok-add_before.ensures ∙ ap (λ l. l ++ first) c.in_ok-more.ensures.items in
    c.in_ok-add_after.ensures
    ∙ ap (λ l. l ++ last) (c.in_ok-push.ensures.items ∙ (λ i. front i ++ (k, c.in_ok-copy.ensures i) ∷ []))
    ∙ append_assoc first ((k, c.args.attr.now) ∷ []) last
    ∙ sym (inserted_between addr_total addr_exact k c.args.attr.now c.args.routes.now c.requires)
