-- The senders of what a cell has received stay in order, and what each of them has told last.
use Rattle.std.proofs.Common.{◌≡◌, cond, filter, List, [], Option, Some, None, ap, ◌∙◌}
use Rattle.std.specs.Ordering.{is_eq}
use Rattle.std.specs.Cmp.{eq_by_cmp_equiv}
use Rattle.std.specs.List.Sorted.{IsStrictlySortedBy}
use Rattle.std.specs.Map.{keys_of}
use Rattle.std.specs.BTreeMap.{is_at}
use Rattle.std.proofs.lemmas.Map.{lookup-remove_entry}
use Rattle.std.proofs.lemmas.Map.Keys.{IsDistinct-from_sorted}
use Rattle.net_prefix.specs.declared.addr.Addr.{Addr}
use Rattle.net_prefix.specs.Address.{addr_cmp}
use Rattle.net_prefix.specs.Orders.{addr_total}
use Rattle.path_attr.specs.declared.attr.Attr.{Attr}
use Rattle.net_conf.specs.declared.site.SiteConf.{SiteConf}
use Rattle.net_conf.specs.Configuration.{Configuration}
use Rattle.net_conf.specs.Costs.{is_up}
use Rattle.session_queue.specs.declared.message.Message.{Message}
use Rattle.session_queue.specs.declared.message.Message.TheVariants.{Update, Withdraw}
use Rattle.cell_engine.specs.Cells.{route_of, with_news, is_up_in, kept_routes}
use Rattle.cell_engine.specs.Senders.{AreInOrder}
use Rattle.reference_machine.proofs.Entries.{ordered_inserted, ordered_removed, ordered_filtered, lookup_inserted}

-- no sender is in order
pub order_none : AreInOrder []
unfolding IsStrictlySortedBy
order_none = tt

-- a message keeps the senders in order
pub order_with_news : (u : Addr) (m : Message) (routes : List (Addr × Attr)) → AreInOrder routes →
    AreInOrder (with_news u m routes)
order_with_news u (Update p attr) routes h = ordered_inserted addr_total u attr routes h
order_with_news u (Withdraw p) routes h = ordered_removed addr_total (is_at (addr_cmp u)) routes h

-- so does what a new site keeps
pub order_kept : (site : SiteConf) (routes : List (Addr × Attr)) → AreInOrder routes →
    AreInOrder (kept_routes site routes)
order_kept site routes h = ordered_filtered addr_total (λ e. is_up_in site e.0) routes h

-- and what a virtual peer keeps
pub order_over : (c : Configuration) (r : Addr) (routes : List (Addr × Attr)) → AreInOrder routes →
    AreInOrder (filter (λ e. is_up c e.0 r) routes)
order_over c r routes h = ordered_filtered addr_total (λ e. is_up c e.0 r) routes h

-- what the message leaves of its sender's route
abbrev pub told : Message → Option Attr
told (Update p attr) = Some attr
told (Withdraw p) = None

-- a message changes its sender's route, and no other
pub route_with_news : (u : Addr) (m : Message) (routes : List (Addr × Attr)) → AreInOrder routes → (v : Addr) →
    route_of (with_news u m routes) v ≡ cond (is_eq (addr_cmp v u)) (told m) (route_of routes v)
route_with_news u (Update p attr) routes h v = lookup_inserted addr_total v u attr routes
route_with_news u (Withdraw p) routes h v =
    lookup-remove_entry (eq_by_cmp_equiv addr_total) (is_at (addr_cmp u))
    (λ x y e. (eq_by_cmp_equiv addr_total).congr u x y e) v routes
    (IsDistinct-from_sorted addr_cmp (keys_of routes) h)
    ∙ ap (λ b. cond b None (route_of routes v)) ((eq_by_cmp_equiv addr_total).symm u v)
