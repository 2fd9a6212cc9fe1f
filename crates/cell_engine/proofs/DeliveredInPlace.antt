-- A delivery in the receiver's cell: places are made before the head is taken, and the rest is as where the outcome is
-- put in.
use Rattle.std.proofs.Common.{◌≡◌, ◌++◌, true, List, drop, slice_get, Option, Some, refl, sym, ap, subst, ◌∙◌}
use Rattle.net_prefix.specs.declared.addr.Addr.{Addr}
use Rattle.net_prefix.specs.Prefix.{MakePrefix}
use Rattle.prefix_table.specs.Tables.{Table}
use Rattle.session_queue.specs.declared.direction.Direction.{Direction}
use Rattle.session_queue.specs.declared.message.Message.{Message}
use Rattle.session_queue.specs.Telling.{prefix_of}
use Rattle.session_queue.specs.Waiting.{Queues, queue_at, KeepsOthers}
use Rattle.net_conf.specs.Configuration.{has_session}
use Rattle.net_conf.specs.Configured.{IsConfigured}
use Rattle.net_conf.specs.Costs.{is_up}
use Rattle.net_conf.specs.RouterSites.{router_site}
use Rattle.net_conf.specs.declared.site.SiteConf.{SiteConf}
use Rattle.reference_machine.specs.Network.{messages_in}
use Rattle.reference_machine.specs.Machine.{head_step}
use Rattle.cell_engine.specs.RouterTables.{with_value}
use Rattle.cell_engine.specs.Cells.{Cell, Outcome}
use Rattle.cell_engine.specs.State.{State, IsConsistent, cell_at, network}
use Rattle.cell_engine.specs.Changes.{AreOverSessionsUp}
use Rattle.cell_engine.specs.Reporting.{AreOfPrefixes}
use Rattle.cell_engine.specs.Sending.{told_from}
use Rattle.cell_engine.specs.Queueing.{KeepsMessages}
use Rattle.cell_engine.specs.Deliveries.{outcome_by, outcome_at, IsOfHead}
use Rattle.cell_engine.proofs.Delivered.{sound_with_queues, sound_after_head, next_after_head, ups_after_head}
use Rattle.cell_engine.proofs.Growth.{head_of}
use Rattle.cell_engine.proofs.Matches.{prefixes_with_cell}
use Rattle.cell_engine.proofs.Queues.{network_same}

module _ (e : State) (sound : IsConsistent e) (d : Direction) (m : Message) (site : Option SiteConf)
    (site_is : site ≡ router_site e.conf d.to) (ts : List (Addr × Table Cell))
    (tables : ts ≡ with_value d.to (prefix_of m)
    (outcome_by site (cell_at d.to (prefix_of m) e.tables) d.from m).cell e.tables) where
  -- what is made of the message
  abbrev outcome : Outcome
  outcome = outcome_at e d m

  tables_are : ts ≡ with_value d.to (prefix_of m) outcome.cell e.tables
  tables_are = tables ∙ ap
      (λ x. with_value d.to (prefix_of m) (outcome_by x (cell_at d.to (prefix_of m) e.tables) d.from m).cell e.tables)
      site_is

  pub prefixes_then : MakePrefix (prefix_of m).addr (prefix_of m).len → AreOfPrefixes e.tables → AreOfPrefixes ts
  prefixes_then block are =
      subst AreOfPrefixes (sym tables_are) (prefixes_with_cell d.to (prefix_of m) outcome.cell e.tables block are)

  module _ (configured : IsConfigured e.conf) (first : slice_get (queue_at e.queues d.from d.to) 0 ≡ Some m)
      (sends : List (Addr × Message))
      (sends_are : sends ≡ (outcome_by site (cell_at d.to (prefix_of m) e.tables) d.from m).sends) (ready q r : Queues)
      (kept : KeepsMessages e.queues ready) (popped : queue_at q d.from d.to ≡ drop 1 (queue_at ready d.from d.to))
      (others : KeepsOthers d.from d.to ready q) (pushed : (f t : Addr) →
      queue_at r f t ≡ queue_at q f t ++ told_from d.to sends f t) where
    -- the engine, once all is ready
    abbrev before_pop : State
    before_pop = record e { queues = ready }

    sound_ready : IsConsistent before_pop
    sound_ready = sound_with_queues e ready sound (λ f t none. kept f t ∙ sound.silent f t none)

    head : IsOfHead before_pop d (prefix_of m) outcome
    head = head_of before_pop d m outcome (ap (λ l. slice_get l 0) (kept d.from d.to) ∙ first) refl

    pushed_here : (f t : Addr) → queue_at r f t ≡ queue_at q f t ++ told_from d.to outcome.sends f t
    pushed_here f t = pushed f t ∙ ap (λ l. queue_at q f t ++ told_from d.to l f t) (sends_are
        ∙ ap (λ x. (outcome_by x (cell_at d.to (prefix_of m) e.tables) d.from m).sends) site_is)

    pub sound_then : IsConsistent (record e { tables = ts; queues = r })
    sound_then = subst (λ x. IsConsistent (record e { tables = x; queues = r })) (sym tables_are)
        (sound_after_head before_pop sound_ready configured d (prefix_of m) outcome head q r popped others pushed_here)

    pub ups_then : is_up e.conf d.from d.to ≡ true → AreOverSessionsUp e.conf e.tables → AreOverSessionsUp e.conf ts
    ups_then on up = subst (AreOverSessionsUp e.conf) (sym tables_are)
        (ups_after_head before_pop sound_ready configured d
        (prefix_of m) outcome head q r popped others pushed_here on up)

    pub next_then : has_session e.conf d.from d.to ≡ true → network (record e { tables = ts; queues = r })
        ≡ (head_step (network e) d (messages_in (network e).queues d)).next
    next_then session =
        ap (λ x. network (record e { tables = x; queues = r })) tables_are
        ∙ next_after_head before_pop sound_ready configured d (prefix_of m) outcome head q r popped others
        pushed_here session
        ∙ ap (λ n. (head_step n d (messages_in n.queues d)).next) (network_same e ready kept)
