-- A delivery: the outcome's cell put in, the head taken and the outcome's messages sent are the machine's own next
-- state, and the engine stays sound.
use Rattle.std.proofs.Common.{◌≡◌, ◌≤◌, Bool, true, false, not, ◌&&◌, List, [], ◌∷◌, ◌++◌, drop, length, Option, Some, None, option_map, is_some, unwrap_or, if◌then◌else◌, refl, sym, ap, subst, ◌∙◌, arith}
use Rattle.std.proofs.lemmas.Bool.{true≢false, and_parts}
use Rattle.std.proofs.lemmas.Option.{none-some}
use Rattle.std.specs.Option.{option_to_list}
use Rattle.net_prefix.specs.declared.addr.Addr.{Addr}
use Rattle.net_prefix.specs.Address.{same_addr}
use Rattle.net_prefix.specs.Prefix.{Prefix, same_prefix}
use Rattle.session_queue.specs.declared.direction.Direction.{Direction}
use Rattle.session_queue.specs.declared.message.Message.{Message}
use Rattle.session_queue.specs.Telling.{prefix_of}
use Rattle.session_queue.specs.Waiting.{Queues, queue_at, same_direction, KeepsOthers}
use Rattle.net_conf.specs.Configuration.{Configuration, node_at, has_node, is_virtual, has_session, session_between}
use Rattle.net_conf.specs.Configured.{IsConfigured}
use Rattle.net_conf.specs.Costs.{is_connected, session_up, is_up}
use Rattle.net_conf.specs.RouterSites.{router_site}
use Rattle.net_conf.specs.Sites.{site_of}
use Rattle.net_conf.specs.declared.site.SiteConf.{SiteConf}
use Rattle.net_conf.proofs.RouterLaws.{site_sessions_in_order}
use Rattle.route_select.specs.Selection.{best_of}
use Rattle.reference_machine.specs.Network.{Network, messages_in, without_head}
use Rattle.reference_machine.specs.Decision.{best}
use Rattle.reference_machine.specs.Advertising.{advert_of, sends, changes, sent, advertised, change_of}
use Rattle.reference_machine.specs.Machine.{taken, head_step, with_sent}
use Rattle.cell_engine.specs.RouterTables.{with_value}
use Rattle.cell_engine.specs.Cells.{Cell, Outcome, with_news, decided, is_up_in, delivered, stored}
use Rattle.cell_engine.specs.State.{State, IsConsistent, cell_at, network}
use Rattle.cell_engine.specs.Keeping.{kept_from}
use Rattle.cell_engine.specs.Changes.{AreOverSessionsUp}
use Rattle.cell_engine.specs.Sending.{told, told_from}
use Rattle.cell_engine.proofs.Decided.{best_in_cell}
use Rattle.cell_engine.proofs.Offers.{best_stays, sent_by_one, same_addr_true, nothing_if}
use Rattle.cell_engine.proofs.Queues.{network_popped, network_sent, messages_on_session}
use Rattle.cell_engine.proofs.OverSessions.{up_with_cell, delivered_kept, stored_kept}
use Rattle.cell_engine.proofs.Sites.{up_in_site, site_of_router}
use Rattle.cell_engine.proofs.Taken.{cell_after, after_news, cell_here, route_elsewhere, sound_after_news, network_after_news}
use Rattle.cell_engine.proofs.Told.{told_one, delivered_is_sent}
use Rattle.cell_engine.specs.Deliveries.{outcome_by, outcome_at, IsOfHead}

-- QUEUES OF SOUND ENGINES

-- where there is no session no message is on its way
abbrev pub IsSilent : State → Queues → Type 0
IsSilent e q = (from to : Addr) → has_session e.conf from to ≡ false → queue_at q from to ≡ []

-- other queues leave an engine sound
pub sound_with_queues : (e : State) (q : Queues) → IsConsistent e → IsSilent e q →
    IsConsistent (record e { queues = q })
sound_with_queues e q sound silent = record {
  by_address = sound.by_address;
  cells = sound.cells;
  origins = sound.origins;
  in_order = sound.in_order;
  sessions = sound.sessions;
  silent = silent;
}

-- THE OUTCOME

-- its cell is decided by the receiver's site
pub outcome_cell : (site : Option SiteConf) (h : Cell) (u : Addr) (m : Message) →
    (outcome_by site h u m).cell ≡ decided site (prefix_of m) (with_news u m h.received)
unfolding delivered stored
outcome_cell None h u m = refl
outcome_cell (Some site) h u m = refl

-- WHO SENDS NOTHING

some_mapped : {A B : Type 0} (f : A → B) (o : Option A) → is_some (option_map f o) ≡ is_some o
some_mapped f None = refl
some_mapped f (Some x) = refl

no_node : (c : Configuration) (r : Addr) → site_of c r ≡ None → has_node c r ≡ false
unfolding site_of
no_node c r none = sym (some_mapped _ (node_at c r)) ∙ ap is_some none

never_as_peer : (a b : Bool) → (a && not true && b) ≡ false
never_as_peer true b = refl
never_as_peer false b = refl

never_down : (a b : Bool) → (a && b && false) ≡ false
never_down true true = refl
never_down true false = refl
never_down false b = refl

-- a virtual peer, or nobody
sends_without_site : (c : Configuration) (r t : Addr) → router_site c r ≡ None → sends c r t ≡ false
sends_without_site c r t none = by (is_virtual c r) none
  where
    by : (virtual : Bool) → (if virtual then None else site_of c r) ≡ None →
        (has_node c r && not virtual && is_up c r t) ≡ false
    by true none = never_as_peer (has_node c r) (is_up c r t)
    by false none = ap (λ b. b && not false && is_up c r t) (no_node c r none)

pub down_without_session : (c : Configuration) (f t : Addr) → has_session c f t ≡ false → is_up c f t ≡ false
unfolding session_up
down_without_session c f t none = by (session_between c f t) none
  where
    by : (session : Option Bool) → is_some session ≡ false →
        unwrap_or (option_map (λ enabled. enabled && is_connected c f t) session) false ≡ false
    by None none = refl
    by (Some enabled) none = absurd (true≢false none)

-- one without a session
pub sent_without_session : (s s' : Network) (f t : Addr) → has_session s'.conf f t ≡ false → sent s s' f t ≡ []
unfolding sent
sent_without_session s s' f t none =
    (λ i. if has_node s'.conf f && not (is_virtual s'.conf f) && down_without_session s'.conf f t none i
    then changes s s' f t else [])
    ∙ ap (λ b. if b then changes s s' f t else []) (never_down (has_node s'.conf f) (not (is_virtual s'.conf f)))

-- A ROUTER'S SITE

router_if_site : (c : Configuration) (r : Addr) (site : SiteConf) → router_site c r ≡ Some site → is_virtual c r ≡ false
router_if_site c r site at = by (is_virtual c r) at
  where
    by : (virtual : Bool) → (if virtual then None else site_of c r) ≡ Some site → virtual ≡ false
    by true is = absurd (none-some site is)
    by false is = refl

-- ONE MESSAGE A PEER

at_most_one : {A : Type 0} (o : Option A) → length (option_to_list o) ≤ 1
at_most_one None = omega arith
at_most_one (Some x) = omega arith

one_if : {A : Type 0} (b : Bool) (o : Option A) → length (if b then option_to_list o else []) ≤ 1
one_if true o = at_most_one o
one_if false o = omega arith

told_at_most_one : (c : Configuration) (r : Addr) → IsConfigured c → (x : Option SiteConf) → router_site c r ≡ x →
    (h : Cell) (u : Addr) (m : Message) (t : Addr) → length (told t (outcome_by x h u m).sends) ≤ 1
unfolding delivered stored
told_at_most_one c r configured None at h u m t = omega arith
told_at_most_one c r configured (Some site) at h u m t =
    let p = prefix_of m in
    let had = best_of h.standings in
    let has = best_of (decided (Some site) p (with_news u m h.received)).standings in
    subst (λ ms. length ms ≤ 1)
    (sym (told_one site site p had has (site_sessions_in_order c r site configured (site_of_router c r site at)) t))
    (one_if (is_up_in site t) (change_of p (advert_of (is_up_in site t) (Some site) t p had)
    (advert_of true (Some site) t p has)))

-- no peer is told more than one message by an outcome
pub outcome_tells_one : (e : State) → IsConfigured e.conf → (d : Direction) (m : Message) (t : Addr) →
    length (told t (outcome_at e d m).sends) ≤ 1
outcome_tells_one e configured d m t = told_at_most_one e.conf d.to configured (router_site e.conf d.to) refl
    (cell_at d.to (prefix_of m) e.tables) d.from m t

-- THE DELIVERY

module _ (e : State) (sound : IsConsistent e) (configured : IsConfigured e.conf) (d : Direction) (m : Message)
    (o : Outcome) (is : o ≡ outcome_at e d m) where
  abbrev cell : Cell
  cell = cell_at d.to (prefix_of m) e.tables

  cell_is : o.cell ≡ cell_after e d m
  cell_is = ap (λ x. x.cell) is ∙ outcome_cell (router_site e.conf d.to) cell d.from m

  -- before anything is sent
  module _ (q : Queues) (silent : IsSilent e q) where
    abbrev before_sends : State
    before_sends = record (after_news e d m) { queues = q }

    sound_before : IsConsistent before_sends
    sound_before = sound_with_queues (after_news e d m) q (sound_after_news e sound d m) silent

    -- no other choice is another
    others_stay : (f : Addr) (x : Prefix) → (same_addr f d.to && same_prefix x (prefix_of m)) ≡ false →
        best (network before_sends) f x ≡ best (network e) f x
    unfolding network
    others_stay f x other = best_stays (network e) (network before_sends) refl f x
        (λ u. route_elsewhere d.to (prefix_of m) (cell_after e d m) e.tables f x other sound.by_address u)

    no_sends_by : (f t : Addr) (here : Bool) → same_addr f d.to ≡ here → router_site e.conf d.to ≡ None →
        (here && sends e.conf f t) ≡ false
    no_sends_by f t true at none = ap (λ r. sends e.conf r t) (same_addr_true f d.to at)
        ∙ sends_without_site e.conf d.to t none
    no_sends_by f t false at none = refl

    told_by : (x : Option SiteConf) → router_site e.conf d.to ≡ x → (f t : Addr) →
        told_from d.to (outcome_by x cell d.from m).sends f t ≡ sent (network e) (network before_sends) f t
    unfolding network delivered stored
    told_by None at f t =
        nothing_if (same_addr f d.to)
        ∙ ap (λ b. if b then option_to_list (change_of (prefix_of m) (advertised (network e) d.to t (prefix_of m))
        (advertised (network before_sends) d.to t (prefix_of m))) else [])
        (sym (no_sends_by f t (same_addr f d.to) refl at))
        ∙ sym (sent_by_one (network e) (network before_sends) refl d.to (prefix_of m) others_stay f t)
    told_by (Some site) at f t =
        let here = site_of_router e.conf d.to site at in
        let router = router_if_site e.conf d.to site at in
        let routes = with_news d.from m cell.received in
        let has : best (network before_sends) d.to (prefix_of m)
        ≡ best_of (decided (Some site) (prefix_of m) routes).standings =
        best_in_cell before_sends sound_before d.to (prefix_of m) router
        ∙ ap (λ (h : Cell). best_of h.standings) (cell_here d.to (prefix_of m) (cell_after e d m) e.tables)
        ∙ ap (λ x. best_of (decided x (prefix_of m) routes).standings) at in
        delivered_is_sent (network e) (network before_sends) refl d.to (prefix_of m) others_stay site here
        (site_sessions_in_order e.conf d.to site configured here) router (up_in_site e.conf d.to site here)
        (best_of cell.standings) (best_of (decided (Some site) (prefix_of m) routes).standings)
        (best_in_cell e sound d.to (prefix_of m) router) has f t

    -- the outcome's messages are those that the machine sends
    told_is_sent : (f t : Addr) → told_from d.to o.sends f t ≡ sent (network e) (network before_sends) f t
    told_is_sent f t = ap (λ x. told_from d.to x.sends f t) is ∙ told_by (router_site e.conf d.to) refl f t

  module _ (q r : Queues) (popped : queue_at q d.from d.to ≡ drop 1 (queue_at e.queues d.from d.to))
      (others : KeepsOthers d.from d.to e.queues q) (pushed : (f t : Addr) →
      queue_at r f t ≡ queue_at q f t ++ told_from d.to o.sends f t) where
    silent_by : (f t : Addr) (here : Bool) → same_direction d.from d.to f t ≡ here → has_session e.conf f t ≡ false →
        queue_at q f t ≡ []
    silent_by f t true at none =
        let parts = and_parts (same_addr f d.from) (same_addr t d.to) at in
        let from = same_addr_true f d.from parts.0 in
        let to = same_addr_true t d.to parts.1 in
        (λ i. queue_at q (from i) (to i)) ∙ popped ∙ sym (λ i. drop 1 (queue_at e.queues (from i) (to i)))
        ∙ ap (drop 1) (sound.silent f t none)
    silent_by f t false off none = others.queue f t off ∙ sound.silent f t none

    silent_popped : IsSilent e q
    silent_popped f t none = silent_by f t (same_direction d.from d.to f t) refl none

    silent_pushed : IsSilent e r
    unfolding network
    silent_pushed f t none =
        pushed f t
        ∙ (λ i. silent_popped f t none i ++ told_is_sent q silent_popped f t i)
        ∙ sent_without_session (network e) (network (before_sends q silent_popped)) f t none

    taken_is : network (before_sends q silent_popped) ≡ taken (network e) d m
    unfolding taken
    taken_is = network_popped (after_news e d m) q d popped others
        ∙ ap (λ (n : Network). record n { queues = without_head d n.queues }) (network_after_news e sound d m)

    -- the engine with the cell put in, the head taken and the outcome's messages sent
    abbrev delivered_to : State
    delivered_to = record e { tables = with_value d.to (prefix_of m) o.cell e.tables; queues = r }

    pub delivered_sound : IsConsistent delivered_to
    delivered_sound =
        subst (λ h. IsConsistent (record e { tables = with_value d.to (prefix_of m) h e.tables; queues = r }))
        (sym cell_is)
        (sound_with_queues (after_news e d m) r (sound_after_news e sound d m) silent_pushed)

    -- has the machine's own next state as its network
    pub delivered_next : (rest : List Message) → has_session e.conf d.from d.to ≡ true →
        queue_at e.queues d.from d.to ≡ m ∷ rest →
        network delivered_to ≡ (head_step (network e) d (messages_in (network e).queues d)).next
    delivered_next rest session waits =
        ap (λ h. network (record e { tables = with_value d.to (prefix_of m) h e.tables; queues = r })) cell_is
        ∙ network_sent (network e) (before_sends q silent_popped) r (λ f t. pushed f t
        ∙ ap (λ l. queue_at q f t ++ l) (told_is_sent q silent_popped f t))
        ∙ ap (with_sent (network e)) taken_is
        ∙ sym (ap (λ ms. (head_step (network e) d ms).next) (messages_on_session e sound d session ∙ ap Some waits))

-- the same of the head's outcome
module _ (e : State) (sound : IsConsistent e) (configured : IsConfigured e.conf) (d : Direction) (p : Prefix)
    (o : Outcome) (head : IsOfHead e d p o) (q r : Queues) (popped : queue_at q d.from d.to
    ≡ drop 1 (queue_at e.queues d.from d.to)) (others : KeepsOthers d.from d.to e.queues q) (pushed : (f t : Addr) →
    queue_at r f t ≡ queue_at q f t ++ told_from d.to o.sends f t) where
  pub sound_after_head : IsConsistent (record e { tables = with_value d.to p o.cell e.tables; queues = r })
  sound_after_head =
      subst (λ x. IsConsistent (record e { tables = with_value d.to x o.cell e.tables; queues = r })) (sym head.prefix)
      (delivered_sound e sound configured d head.message o head.outcome q r popped others pushed)

  pub next_after_head : has_session e.conf d.from d.to ≡ true →
      network (record e { tables = with_value d.to p o.cell e.tables; queues = r })
      ≡ (head_step (network e) d (messages_in (network e).queues d)).next
  next_after_head session =
      ap (λ x. network (record e { tables = with_value d.to x o.cell e.tables; queues = r })) head.prefix
      ∙ delivered_next e sound configured d head.message o head.outcome q r popped others pushed
      head.rest session head.waits

  -- all routes come over sessions that are up still
  pub ups_after_head : is_up e.conf d.from d.to ≡ true → AreOverSessionsUp e.conf e.tables →
      AreOverSessionsUp e.conf (with_value d.to p o.cell e.tables)
  ups_after_head on up =
      let m = head.message in
      let h = cell_at d.to (prefix_of m) e.tables in
      let kept : (x : Option SiteConf) → kept_from e.conf d.to (outcome_by x h d.from m).cell.received
      ≡ (outcome_by x h d.from m).cell.received =
      λ x. kept_by x h (up d.to (prefix_of m)) in
      up_with_cell e.conf e.tables d.to p o.cell up
      (subst (λ (y : Outcome). kept_from e.conf d.to y.cell.received ≡ y.cell.received) (sym head.outcome)
      (kept (router_site e.conf d.to)))
    where
      kept_by : (x : Option SiteConf) (h : Cell) → kept_from e.conf d.to h.received ≡ h.received →
          kept_from e.conf d.to (outcome_by x h d.from head.message).cell.received
          ≡ (outcome_by x h d.from head.message).cell.received
      kept_by None h is = stored_kept e.conf d.to d.from h head.message on is
      kept_by (Some site) h is = delivered_kept e.conf d.to d.from site h head.message on is
