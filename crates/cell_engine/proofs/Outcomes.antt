-- What holds of a cell after a message or an edit: its senders are in order, and the router's site decided it.
use Rattle.std.proofs.Common.{◌≡◌, false, [], Some, None, refl, sym, ap}
use Rattle.net_prefix.specs.declared.addr.Addr.{Addr}
use Rattle.net_prefix.specs.Prefix.{Prefix}
use Rattle.net_conf.specs.declared.site.SiteConf.{SiteConf}
use Rattle.session_queue.specs.declared.message.Message.{Message}
use Rattle.session_queue.specs.Telling.{prefix_of}
use Rattle.reference_machine.specs.Decision.{is_originated}
use Rattle.cell_engine.specs.Cells.{Cell, new_cell, IsDecided, delivered, stored, refreshed}
use Rattle.cell_engine.specs.Senders.{AreInOrder}
use Rattle.cell_engine.proofs.Decided.{nothing_stands}
use Rattle.cell_engine.proofs.SendersInOrder.{order_with_news, order_kept}

-- IN ORDER

pub order_delivered : (site : SiteConf) (h : Cell) (u : Addr) (m : Message) → AreInOrder h.received →
    AreInOrder (delivered site h u m).cell.received
unfolding delivered
order_delivered site h u m order = order_with_news u m h.received order

pub order_stored : (h : Cell) (u : Addr) (m : Message) → AreInOrder h.received → AreInOrder (stored h u m).cell.received
unfolding stored
order_stored h u m order = order_with_news u m h.received order

pub order_refreshed : (old new : SiteConf) (p : Prefix) (h : Cell) → AreInOrder h.received →
    AreInOrder (refreshed old new p h).cell.received
unfolding refreshed
order_refreshed old new p h order = order_kept new h.received order

-- DECIDED

pub decided_delivered : (site : SiteConf) (h : Cell) (u : Addr) (m : Message) →
    IsDecided (Some site) (prefix_of m) (delivered site h u m).cell
unfolding delivered
decided_delivered site h u m = refl

pub decided_stored : (h : Cell) (u : Addr) (m : Message) → IsDecided None (prefix_of m) (stored h u m).cell
unfolding stored
decided_stored h u m = refl

pub decided_refreshed : (old new : SiteConf) (p : Prefix) (h : Cell) →
    IsDecided (Some new) p (refreshed old new p h).cell
unfolding refreshed
decided_refreshed old new p h = refl

-- where nothing was received, and the router does not originate the prefix, nothing stands
pub decided_nothing : (site : SiteConf) (p : Prefix) → is_originated site p ≡ false → IsDecided (Some site) p new_cell
decided_nothing site p other = ap (λ s. record { received = []; standings = s }) (sym (nothing_stands site p other))
