-- What is reported of a sound engine, read off the tables of one router.
use Rattle.std.proofs.Common.{◌≡◌, Bool, true, false, ◌↔◌, List, [], Option, Some, None, option_map, unwrap_or, if◌then◌else◌, refl, sym, ap, ◌∙◌}
use Rattle.std.proofs.lemmas.Bool.{true≢false}
use Rattle.std.specs.List.{list_any, filter_map}
use Rattle.std.specs.Ordering.{eq_by_cmp}
use Rattle.net_prefix.specs.declared.addr.Addr.{Addr}
use Rattle.net_prefix.specs.Prefix.{Prefix, prefix_cmp}
use Rattle.net_prefix.specs.Orders.{prefix_total, prefix_exact}
use Rattle.session_queue.specs.declared.direction.Direction.{Direction}
use Rattle.session_queue.specs.declared.message.Message.{Message}
use Rattle.session_queue.specs.Waiting.{queue_at, IsQuiet}
use Rattle.net_conf.specs.Configuration.{is_virtual, has_session}
use Rattle.net_conf.specs.Costs.{is_up}
use Rattle.net_conf.specs.Sites.{site_of}
use Rattle.route_select.specs.declared.candidate.Candidate.{Candidate}
use Rattle.route_select.specs.Selection.{best_of}
use Rattle.reference_machine.specs.Network.{Network}
use Rattle.reference_machine.specs.Decision.{best}
use Rattle.reference_machine.specs.Advertising.{advert_of, advertised, prefixes_at, in_order}
use Rattle.reference_machine.specs.Reports.{held_of, loc_rib, choice, adj_rib_out, queue, is_quiet}
use Rattle.reference_machine.proofs.Known.{chosen_known}
use Rattle.cell_engine.specs.RouterTables.{table_at}
use Rattle.cell_engine.specs.Cells.{new_cell}
use Rattle.cell_engine.specs.State.{State, IsConsistent, cell_at, network}
use Rattle.cell_engine.specs.Reporting.{cells_of, routes_chosen, adverts_to, queue_in}
use Rattle.cell_engine.proofs.Decided.{best_in_cell, none_best}
use Rattle.cell_engine.proofs.Listed.{listed, none_from}
use Rattle.cell_engine.proofs.Offers.{prefix_tied, none_if}
use Rattle.cell_engine.proofs.Picks.{sorted_gathered}
use Rattle.cell_engine.proofs.Queues.{messages_of_network, quiet_network, quiet_queues}

-- CELL BY CELL

pub not_true : (b : Bool) → (b ≡ true → ⊥) → b ≡ false
not_true true h = absurd (h refl)
not_true false h = refl

-- nothing is chosen for a prefix that the router does not know
unknown : (s : Network) (r : Addr) (q : Prefix) → list_any (eq_by_cmp prefix_cmp q) (in_order (prefixes_at s r))
    ≡ false → best s r q ≡ None
unknown s r q off =
    none_from (best s r q) (not_true _ (λ some. true≢false (sym (chosen_known s r q some)
    ∙ (λ i. list_any (λ p. prefix_tied q p i) (in_order (prefixes_at s r))) ∙ off)))

module _ (e : State) (sound : IsConsistent e) (r : Addr) (router : is_virtual e.conf r ≡ false) where
  module _ {V : Type 0} (G : Prefix → Option Candidate → Option V) (nothing : (p : Prefix) → G p None ≡ None) where
    -- what is said of each prefix that the router knows, by its choice, is said of its cells
    by_cells : filter_map (λ p. G p (best (network e) r p)) (in_order (prefixes_at (network e) r))
        ≡ filter_map (λ c. G c.0 (best_of c.1.standings)) (cells_of r e.tables)
    by_cells =
        listed prefix_total prefix_exact (table_at r e.tables) (λ p. G p (best (network e) r p))
        (λ c. G c.0 (best_of c.1.standings))
        (λ p h is. ap (G p) (best_in_cell e sound r p router ∙ ap (λ x. best_of (unwrap_or x new_cell).standings) is))
        (λ p none. ap (G p) (best_in_cell e sound r p router ∙ ap (λ x. best_of (unwrap_or x new_cell).standings) none
        ∙ none_best) ∙ nothing p)
        (in_order (prefixes_at (network e) r))
        (sorted_gathered prefix_total prefix_exact (prefixes_at (network e) r))
        (λ q off. ap (G q) (unknown (network e) r q off) ∙ nothing q)

  -- the Loc-RIB has what is chosen in each cell
  pub loc_rib_by_cells : loc_rib (network e) r ≡ routes_chosen r e.tables
  unfolding loc_rib
  loc_rib_by_cells = by_cells held_of (λ p. refl)

  -- a choice is the best that stands in its cell
  pub choice_by_cell : (p : Prefix) → choice (network e) r p ≡ held_of p (best_of (cell_at r p e.tables).standings)
  unfolding choice
  choice_by_cell p = ap (held_of p) (best_in_cell e sound r p router)

  -- the Adj-RIB-Out for a peer has what is advertised of each cell
  pub adj_rib_out_by_cells : (t : Addr) → adj_rib_out (network e) r t ≡ adverts_to e.conf r t e.tables
  unfolding adj_rib_out advertised network
  adj_rib_out_by_cells t =
      by_cells (λ p b. option_map (λ attr. (p, attr)) (advert_of (is_up e.conf r t) (site_of e.conf r) t p b))
      (λ p. ap (option_map (λ attr. (p, attr))) (none_if (is_up e.conf r t)))

-- QUEUES

none_there : (there : Bool) (ms : List Message) → (there ≡ false → ms ≡ []) →
    unwrap_or (if there then Some ms else None) [] ≡ ms
none_there true ms silent = refl
none_there false ms silent = sym (silent refl)

-- the messages on their way are those of the engine's queue
pub queue_by_direction : (e : State) → IsConsistent e → (d : Direction) →
    queue (network e) d ≡ queue_in e.conf e.queues d
unfolding queue network
queue_by_direction e sound d =
    ap (λ ms. if is_up e.conf d.from d.to then ms else []) (ap (λ o. unwrap_or o []) (messages_of_network e sound d)
    ∙ none_there (has_session e.conf d.from d.to) (queue_at e.queues d.from d.to) (sound.silent d.from d.to))

-- and none is on its way where none is in those queues
pub quiet_by_queues : (e : State) → IsConsistent e → (is_quiet (network e) ≡ true) ↔ IsQuiet e.queues
quiet_by_queues e sound = (quiet_queues e sound, quiet_network e sound)
