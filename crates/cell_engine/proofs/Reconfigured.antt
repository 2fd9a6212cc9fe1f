-- An edit's plan carried out: queues over sessions that are not up cleared, the plan's parts put in and its messages
-- sent are the machine's own next state, and the engine stays sound.
use Rattle.std.proofs.Common.{◌≡◌, Bool, true, false, [], ◌++◌, None, unwrap_or, if◌then◌else◌, refl, sym, ap, subst, ◌∙◌}
use Rattle.net_prefix.specs.declared.addr.Addr.{Addr}
use Rattle.session_queue.specs.Waiting.{Queues, queue_at}
use Rattle.net_conf.specs.declared.edit.Edit.{Edit}
use Rattle.net_conf.specs.Configuration.{Configuration, has_session}
use Rattle.net_conf.specs.Configured.{IsConfigured}
use Rattle.net_conf.specs.Costs.{is_up}
use Rattle.net_conf.specs.Edits.{edited, refusal_of}
use Rattle.net_conf.specs.Scopes.{scope}
use Rattle.net_conf.proofs.KeptTrees.{or_right}
use Rattle.net_conf.proofs.OthersStay.{sites_of_others, sessions_stay, origins_alone, other_origins}
use Rattle.reference_machine.specs.Advertising.{sent}
use Rattle.reference_machine.specs.Machine.{after_edit, with_sent, reconfigured}
use Rattle.cell_engine.specs.Cells.{new_cell}
use Rattle.cell_engine.specs.State.{State, IsConsistent, network}
use Rattle.cell_engine.specs.Keeping.{kept_from, kept_tables}
use Rattle.cell_engine.specs.Editing.{with_origin, left_at, edited_tables, edited_engine, all_sends, told_by_all}
use Rattle.cell_engine.specs.Changes.{with_changes, sends_for, AreOverSessionsUp}
use Rattle.cell_engine.specs.Moves.{moves}
use Rattle.cell_engine.specs.Settled.{AreSettledOutside, AreSettledBut, AreThere}
use Rattle.cell_engine.specs.Reporting.{AreOfPrefixes}
use Rattle.cell_engine.proofs.AcceptedEdits.{passes, joins, session_edited}
use Rattle.cell_engine.proofs.AfterEdit.{sound_edited}
use Rattle.cell_engine.proofs.Matches.{prefixes_kept}
use Rattle.cell_engine.proofs.Placed.{changes_there, changes_placed}
use Rattle.cell_engine.proofs.ToldByChanges.{told_by_changes}
use Rattle.cell_engine.proofs.Decided.{is_cell}
use Rattle.cell_engine.proofs.Moves.{settled_but_moved}
use Rattle.cell_engine.proofs.Settled.{settled_outside}
use Rattle.cell_engine.proofs.OverSessions.{up_after}
use Rattle.cell_engine.proofs.Refreshed.{told_edited, network_edited}
use Rattle.cell_engine.specs.Edits.{Made, planned, IsMade}
use Rattle.cell_engine.proofs.Delivered.{down_without_session, sent_without_session}

-- the directions of the sessions that are down are cleared
pub record IsCleared (e : State) (c : Configuration) (q : Queues) : Type 0 where
  pub up : (f t : Addr) → is_up c f t ≡ true → queue_at q f t ≡ queue_at e.queues f t
  pub down : (f t : Addr) → has_session c f t ≡ true → is_up c f t ≡ false → queue_at q f t ≡ []
  pub empty : (f t : Addr) → queue_at e.queues f t ≡ [] → queue_at q f t ≡ []

module _ (e : State) (sound : IsConsistent e) (c : Configuration) (still : (f t : Addr) →
    has_session e.conf f t ≡ true → has_session c f t ≡ true) (q : Queues) (cleared : IsCleared e c q) where
  -- what is left is what was on its way over sessions that are up
  left_over : (f t : Addr) → queue_at q f t ≡ left_at c e.queues f t
  left_over f t = by (is_up c f t) refl where
    none_by : (session : Bool) → has_session e.conf f t ≡ session → is_up c f t ≡ false → queue_at q f t ≡ []
    none_by true is off = cleared.down f t (still f t is) off
    none_by false is off = cleared.empty f t (sound.silent f t is)

    by : (up : Bool) → is_up c f t ≡ up → queue_at q f t ≡ (if up then queue_at e.queues f t else [])
    by true is = cleared.up f t is
    by false is = none_by (has_session e.conf f t) refl is

-- the engine with what the plan makes and these queues
abbrev pub with_plan : State → Made → Queues → State
with_plan e x r = record {
  conf = x.conf;
  tables = with_changes x.changes e.tables;
  directions = x.directions;
  queues = r;
}

-- the queues are those that were cleared, with the plan's messages at their ends
abbrev pub IsPushed : Made → Queues → Queues → Type 0
IsPushed x q r = (f t : Addr) → queue_at r f t ≡ queue_at q f t ++ told_by_all (sends_for x.changes) f t

module _ (e : State) (sound : IsConsistent e) (configured : IsConfigured e.conf)
    (up : AreOverSessionsUp e.conf e.tables) (edit : Edit) where
  abbrev new : Configuration
  new = edited e.conf edit

  pub settled : AreSettledOutside (scope edit) e.conf new e.tables
  settled = settled_outside sites_of_others sessions_stay origins_alone other_origins e sound configured edit up

  -- and so is each cell that the edit cannot change
  pub unmoved : AreSettledBut (moves e.conf new) e.conf new e.tables
  unmoved r p h at off =
      settled_but_moved e.conf new configured r p h
      (subst (λ x. kept_from e.conf r (unwrap_or x new_cell).received ≡ (unwrap_or x new_cell).received) at (up r p))
      (is_cell e sound r p h at).decided off

  -- with the changes in their places, each cell is decided anew
  pub tables_are : with_changes (planned e edit).changes e.tables ≡ kept_tables new e.tables
  tables_are = changes_placed (moves e.conf new) (scope edit) e.conf new e.tables sound.by_address settled unmoved

  -- each has a cell already
  pub plan_there : (x : Made) → IsMade e edit x → AreThere x.changes e.tables
  plan_there x is = subst (λ (y : Made). AreThere y.changes e.tables) (sym is.plan)
      (changes_there (moves e.conf new) (scope edit) e.conf new e.tables sound.by_address)

  -- all routes in the tables come over sessions that are up then
  pub plan_over_sessions_up : (x : Made) → IsMade e edit x → AreOverSessionsUp x.conf (with_changes x.changes e.tables)
  plan_over_sessions_up x is = subst (λ (y : Made). AreOverSessionsUp y.conf (with_changes y.changes e.tables))
      (sym is.plan) (subst (AreOverSessionsUp new) (sym tables_are) (up_after new e.tables))

  -- whatever has a cell is a prefix still
  pub plan_of_prefixes : (x : Made) → IsMade e edit x → AreOfPrefixes e.tables →
      AreOfPrefixes (with_changes x.changes e.tables)
  plan_of_prefixes x is are = subst (λ (y : Made). AreOfPrefixes (with_changes y.changes e.tables)) (sym is.plan)
      (subst AreOfPrefixes (sym tables_are) (prefixes_kept new e.tables are))

  abbrev Follows : Made → Type 0
  Follows x = IsConfigured x.conf → (q r : Queues) → IsCleared e x.conf q → IsPushed x q r →
      IsConsistent (with_plan e x r) × (network (with_plan e x r) ≡ with_sent (network e) (after_edit (network e) edit))

  module _ (allowed : refusal_of e.conf edit ≡ None) (origin : with_origin edit e.tables ≡ e.tables) where
    sent_without : (f t : Addr) → has_session new f t ≡ false → sent (network e) (after_edit (network e) edit) f t ≡ []
    unfolding network reconfigured
    sent_without f t none = sent_without_session (network e) (after_edit (network e) edit) f t none

    all_tables : with_changes (planned e edit).changes e.tables ≡ edited_tables new edit e.tables
    all_tables = tables_are ∙ ap (kept_tables new) (sym origin)

    all_told : (f t : Addr) → told_by_all (sends_for (planned e edit).changes) f t
        ≡ told_by_all (all_sends e.conf new (with_origin edit e.tables)) f t
    all_told f t =
        told_by_changes (moves e.conf new) (scope edit) e.conf new e.tables sound.by_address settled unmoved f t
        ∙ ap (λ ts. told_by_all (all_sends e.conf new ts) f t) (sym origin)

    -- a session that is there stays
    still_there : (f t : Addr) → has_session e.conf f t ≡ true → has_session new f t ≡ true
    still_there f t is = session_edited e.conf edit (passes e.conf edit allowed) f t ∙ or_right (joins edit f t) is

    follows : Follows (planned e edit)
    follows then_ q r cleared pushed =
        let left = left_over e sound new still_there q cleared in
        let sends = all_sends e.conf new (with_origin edit e.tables) in
        let queued : (f t : Addr) → queue_at r f t ≡ queue_at q f t ++ told_by_all sends f t = λ f t. pushed f t
        ∙ ap (λ l. queue_at q f t ++ l) (all_told f t) in
        let silent : (f t : Addr) → has_session new f t ≡ false → queue_at r f t ≡ [] =
        λ f t none. queued f t ∙ (λ i.
        (left f t ∙ ap (λ b. if b then queue_at e.queues f t else []) (down_without_session new f t none)) i
        ++ (told_edited e sound edit configured then_ allowed f t ∙ sent_without f t none) i) in
        let engine : with_plan e (planned e edit) r ≡ edited_engine e edit r =
        ap (λ ts. record (edited_engine e edit r) { tables = ts }) all_tables in (
          subst IsConsistent (sym engine) (sound_edited e sound edit allowed r silent),
          ap network engine ∙ network_edited e sound edit configured then_ allowed r (λ f t. queued f t
              ∙ ap (λ l. l ++ told_by_all sends f t) (left f t)),
        )

  -- the plan of an edit that is not refused
  pub plan_followed : (x : Made) → IsMade e edit x → Follows x
  plan_followed x is = subst Follows (sym is.plan) (follows is.allowed is.origin)
