-- What a job holds, and what is still so in the room.
use Rattle.std.proofs.Common.{◌≡◌, List, [], ◌∷◌, slice_get, Option, Some, None, refl, sym, ap, subst, ◌∙◌}
use Rattle.std.proofs.lemmas.Option.{none-some, same_Some}
use Rattle.net_prefix.specs.declared.addr.Addr.{Addr}
use Rattle.net_prefix.specs.Prefix.{Prefix}
use Rattle.net_conf.specs.declared.site.SiteConf.{SiteConf}
use Rattle.net_conf.specs.Configuration.{Configuration, unconfigured}
use Rattle.net_conf.specs.Sites.{site_of}
use Rattle.net_conf.specs.Configured.{IsConfigured}
use Rattle.net_conf.specs.RouterSites.{router_site}
use Rattle.net_conf.proofs.RouterLaws.{site_of_router, site_sessions_in_order}
use Rattle.session_queue.specs.declared.message.Message.{Message}
use Rattle.session_queue.specs.Telling.{prefix_of, kind_of}
use Rattle.session_queue.specs.Waiting.{queue_at}
use Rattle.sim_event.specs.declared.reply.Reply.TheVariants.{Took}
use Rattle.reference_machine.specs.Decision.{route_from}
use Rattle.reference_machine.specs.Machine.{step, delivery_refusal}
use Rattle.cell_engine.specs.Cells.{Outcome, decided, route_of}
use Rattle.cell_engine.specs.State.{State, IsConsistent, cell_at, network}
use Rattle.cell_engine.proofs.Decided.{cell_decided}
use Rattle.cell_engine.proofs.Received.{route_in_cell}
use Rattle.cell_engine.specs.Deliveries.{outcome_by}
use Rattle.sim_core.specs.Installing.{IsOutcomeOfHead}
use Rattle.sim_core.proofs.Accepted.{delivery_takes}
use Rattle.session_law.proofs.Told.{IsTidy}
use Rattle.room.specs.Books.{RoomBook, IsKept}
use Rattle.room.specs.Jobs.{Job, IsSeenIn, CanDecide, ArePeersInOrder, outcome_of}
use Rattle.room.specs.Commits.{delivery_of}
use Rattle.room.proofs.Deliverable.{tidy_after, not_refused}

peers_by : (c : Configuration) → IsConfigured c → (r : Addr) (x : Option SiteConf) →
    router_site c r ≡ x → ArePeersInOrder x
peers_by c configured r None at = tt
peers_by c configured r (Some site) at = site_sessions_in_order c r site configured (site_of_router c r site at)

-- what is in the room can be decided
pub can_decide : (e : State) → IsConsistent e → IsConfigured e.conf → (x : Job) →
    x.site ≡ router_site e.conf x.direction.to → x.cell ≡ cell_at x.direction.to (prefix_of x.head) e.tables →
    CanDecide x
can_decide e sound configured x site cell = record {
  decided = cell ∙ cell_decided e sound x.direction.to (prefix_of x.head)
      ∙ (λ i. decided (sym site i) (prefix_of x.head) (sym cell i).received);
  peers = subst ArePeersInOrder (sym site)
      (peers_by e.conf configured x.direction.to (router_site e.conf x.direction.to) refl);
}

-- where nothing is configured nobody has a site
pub no_site : (r : Addr) → router_site unconfigured r ≡ None
unfolding site_of
no_site r = refl

-- the route that the network has is that of the cell
pub route_in_network : (e : State) → IsConsistent e → (r : Addr) (p : Prefix) (u : Addr) →
    route_from (network e).received r p u ≡ route_of (cell_at r p e.tables).received u
unfolding network
route_in_network e sound r p u = route_in_cell e.tables sound.by_address r p u

-- cells that were decided by one site from the same routes are one
pub same_cell : (e : State) → IsConsistent e → (x : Job) → CanDecide x → x.site ≡ router_site e.conf x.direction.to →
    x.cell.received ≡ (cell_at x.direction.to (prefix_of x.head) e.tables).received →
    x.cell ≡ cell_at x.direction.to (prefix_of x.head) e.tables
same_cell e sound x can site received =
    can.decided ∙ (λ i. decided (site i) (prefix_of x.head) (received i))
    ∙ sym (cell_decided e sound x.direction.to (prefix_of x.head))

-- A DELIVERY

waits_by : (ms : List Message) (m : Message) → slice_get ms 0 ≡ Some m → (rest : List Message) × (ms ≡ m ∷ rest)
waits_by [] m is = absurd (none-some m is)
waits_by (w ∷ ws) m is = (ws, ap (λ x. x ∷ ws) (same_Some w m is))

module _ (room : RoomBook) (kept : IsKept room) (sound : IsConsistent room.engine) (x : Job)
    (seen : IsSeenIn room x) where
  tidy : IsTidy (network room.engine)
  tidy = subst IsTidy (sym kept.state) (tidy_after room.history)

  -- it is not refused
  pub seen_allowed : delivery_refusal room.engine.conf x.direction ≡ None
  seen_allowed =
      let waits = waits_by (queue_at room.engine.queues x.direction.from x.direction.to) x.head seen.head in
      not_refused room.engine sound tidy x.direction x.head waits.0 waits.1

  -- the head is taken
  pub seen_took : (step (network room.engine) (delivery_of x)).reply ≡ Took (prefix_of x.head) (kind_of x.head)
  seen_took = delivery_takes room.engine sound x.direction seen_allowed x.head seen.head

  -- and the outcome is its own
  pub seen_outcome : (o : Outcome) → o ≡ outcome_of x → IsOutcomeOfHead room.engine x.direction o
  seen_outcome o is =
      let waits = waits_by (queue_at room.engine.queues x.direction.from x.direction.to) x.head seen.head in
      record {
        message = x.head;
        rest = waits.0;
        waits = waits.1;
        outcome = is
            ∙ (λ i. outcome_by (seen.site i) (seen.cell i) x.direction.from x.head);
      }
