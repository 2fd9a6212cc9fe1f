use Rattle.std.proofs.Common.{◌≡◌, List, Result, Ok, Err, OnOk, OnErr, sym, subst}
use Rattle.std.specs.BTreeMap.{is_at}
use Rattle.net_prefix.specs.declared.addr.Addr.{Addr}
use Rattle.net_prefix.specs.Address.{addr_cmp}
use Rattle.net_prefix.specs.Orders.{addr_total}
use Rattle.path_attr.specs.declared.attr.Attr.{Attr}
use Rattle.cell_engine.specs.Senders.{AreInOrder}
use Rattle.reference_machine.proofs.Entries.{ordered_inserted, ordered_removed}
use Rattle.cell_engine.proofs.route_cell.received_routes.ReceivedRoutes.take.Goals as goal

either : {A E : Type 0} (r : Result A E) (xs old new : List (Addr × Attr)) → OnOk r (xs ≡ new) → OnErr r (xs ≡ old) →
    AreInOrder old → AreInOrder new → AreInOrder xs
either (Ok a) xs old new ok err before after = subst AreInOrder (sym ok) after
either (Err e) xs old new ok err before after = subst AreInOrder (sym err) before

pub invariant_of-self : goal.invariant_of-self
invariant_of-self c =
    either c.put_route.result c.put_route.new.routes.items c.self.inside.routes.items _ c.put_route.ensures.ok
    c.put_route.ensures.err c.self.invariant
    (ordered_inserted addr_total c.args.sender c.in_ok-attr-in-Update.attr c.self.inside.routes.items c.self.invariant)

pub invariant_of-self-in-Withdraw : goal.invariant_of-self-in-Withdraw
invariant_of-self-in-Withdraw c =
    subst AreInOrder (sym c.remove_route.ensures)
    (ordered_removed addr_total (is_at (addr_cmp c.args.sender)) c.self.inside.routes.items c.self.invariant)
