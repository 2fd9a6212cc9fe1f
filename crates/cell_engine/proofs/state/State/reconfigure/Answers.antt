use Rattle.std.proofs.Common.{◌≡◌, ◌≤◌, ◌++◌, length, ap, sym, subst, ◌∙◌}
use Rattle.std.specs.Arc.{arc_value}
use Rattle.net_conf.specs.Configured.{IsConfigured}
use Rattle.reference_machine.specs.Machine.{after_edit, with_sent}
use Rattle.session_queue.specs.Waiting.{queue_at, spare_at}
use Rattle.cell_engine.specs.State.{State, IsConsistent, network}
use Rattle.cell_engine.specs.Editing.{told_by_all}
use Rattle.cell_engine.specs.Changes.{with_changes, AreOverSessionsUp}
use Rattle.cell_engine.specs.Reporting.{AreOfPrefixes}
use Rattle.cell_engine.specs.Admitting.{AreAllAdmitted}
use Rattle.cell_engine.specs.CellEdits.{AreEditsThere, edits_send, whole_changes, with_edits}
use Rattle.cell_engine.specs.Edits.{Edited, IsPlanned, HasPlaces, made_in}
use Rattle.cell_engine.proofs.Reconfigured.{IsCleared, IsPushed, plan_there, plan_over_sessions_up, plan_of_prefixes, plan_followed}
use Rattle.cell_engine.proofs.Whole.{sends_whole, edits_there, plan_placed}
use Rattle.cell_engine.proofs.state.State.reconfigure.Goals as goal

pub place_edits-requires-clause-there : goal.place_edits-requires-clause-there
place_edits-requires-clause-there g c =
    let e : State = record {
      conf = c.self.inside.conf;
      tables = c.self.inside.tables;
      directions = c.self.inside.directions;
      queues = c.self.inside.queues;
    } in
    let x : Edited = record {
      conf = arc_value c.into_inner-conf.result.conf;
      directions = c.into_inner-conf.result.directions;
      edits = c.into_inner-conf.result.edits;
    } in
    let shown : x ≡ c.args.edited =
    ap (λ v. record { conf = arc_value v.conf; directions = v.directions; edits = v.edits })
    c.into_inner-conf.ensures ∙ c.edited.view_is in
    let edit = c.requires.of.edit in
    let is : IsPlanned e edit x = subst (λ n. IsPlanned n edit x) (sym c.self.view_is)
    (subst (IsPlanned c.args.self.now edit) (sym shown) c.requires.of.is) in
    subst (λ l. AreEditsThere l e.tables) (sym c.into_vec.ensures)
    (edits_there e.tables e.tables x.edits
    (plan_there e c.self.invariant.0 c.facts.ensures.configured c.self.invariant.2 edit (made_in e.tables x) is))

pub place_edits-requires-clause-room : goal.place_edits-requires-clause-room
place_edits-requires-clause-room g c =
    let e : State = record {
      conf = c.self.inside.conf;
      tables = c.self.inside.tables;
      directions = c.self.inside.directions;
      queues = c.self.inside.queues;
    } in
    let x : Edited = record {
      conf = arc_value c.into_inner-conf.result.conf;
      directions = c.into_inner-conf.result.directions;
      edits = c.into_inner-conf.result.edits;
    } in
    let shown : x ≡ c.args.edited =
    ap (λ v. record { conf = arc_value v.conf; directions = v.directions; edits = v.edits })
    c.into_inner-conf.ensures ∙ c.edited.view_is in
    let room : HasPlaces e x =
    subst (λ n. HasPlaces n x) (sym c.self.view_is)
    (subst (HasPlaces c.args.self.now) (sym shown) c.requires.room) in
    λ f t. subst (λ n. length (told_by_all (edits_send c.into_vec.result.items) f t) ≤ n)
    (sym (c.clear_down.ensures.spare f t))
    (subst (λ l. length (told_by_all (edits_send l) f t) ≤ spare_at e.queues f t)
    (sym c.into_vec.ensures) (room.places f t))

pub place_edits-requires-clause-admitted : goal.place_edits-requires-clause-admitted
place_edits-requires-clause-admitted g c =
    let e : State = record {
      conf = c.self.inside.conf;
      tables = c.self.inside.tables;
      directions = c.self.inside.directions;
      queues = c.self.inside.queues;
    } in
    let x : Edited = record {
      conf = arc_value c.into_inner-conf.result.conf;
      directions = c.into_inner-conf.result.directions;
      edits = c.into_inner-conf.result.edits;
    } in
    let shown : x ≡ c.args.edited =
    ap (λ v. record { conf = arc_value v.conf; directions = v.directions; edits = v.edits })
    c.into_inner-conf.ensures ∙ c.edited.view_is in
    let room : HasPlaces e x =
    subst (λ n. HasPlaces n x) (sym c.self.view_is)
    (subst (HasPlaces c.args.self.now) (sym shown) c.requires.room) in
    subst (λ a. AreAllAdmitted a c.into_vec.result.items) (sym c.clear_down.ensures.admitted)
    (subst (AreAllAdmitted e.queues.admitted) (sym c.into_vec.ensures) room.admitted)

pub invariant_of-self : goal.invariant_of-self
invariant_of-self g c =
    let e : State = record {
      conf = c.self.inside.conf;
      tables = c.self.inside.tables;
      directions = c.self.inside.directions;
      queues = c.self.inside.queues;
    } in
    let x : Edited = record {
      conf = arc_value c.into_inner-conf.result.conf;
      directions = c.into_inner-conf.result.directions;
      edits = c.into_inner-conf.result.edits;
    } in
    let shown : x ≡ c.args.edited =
    ap (λ v. record { conf = arc_value v.conf; directions = v.directions; edits = v.edits })
    c.into_inner-conf.ensures ∙ c.edited.view_is in
    let edit = c.requires.of.edit in
    let is : IsPlanned e edit x = subst (λ n. IsPlanned n edit x) (sym c.self.view_is)
    (subst (IsPlanned c.args.self.now edit) (sym shown) c.requires.of.is) in
    let there : IsCleared e c.deref-2.result.now c.clear_down.new.queues = record {
      up = c.clear_down.ensures.up;
      down = c.clear_down.ensures.down;
      empty = c.clear_down.ensures.empty;
    } in
    let cleared : IsCleared e x.conf c.clear_down.new.queues =
    subst (λ k. IsCleared e k c.clear_down.new.queues) c.deref-2.ensures there in
    let pushed : IsPushed (made_in e.tables x) c.clear_down.new.queues c.place_edits.new.queues =
    λ f t. c.place_edits.ensures.queue f t
    ∙ ap (λ l. queue_at c.clear_down.new.queues f t ++ told_by_all l f t) (ap edits_send c.into_vec.ensures
    ∙ sym (sends_whole e.tables x.edits)) in
    let whole = whole_changes e.tables x.edits in
    let placed : c.place_edits.new.tables ≡ with_changes whole e.tables = c.place_edits.ensures.tables
    ∙ ap (λ l. with_edits l e.tables) c.into_vec.ensures ∙ plan_placed e c.self.invariant.0 edit x is in
    let set : c.set.new.self ≡ x.conf = c.set.ensures in
    let configured = c.facts.ensures.configured in
    let sound = c.self.invariant.0 in
    let ups = c.self.invariant.2 in (
      subst (λ k. IsConsistent (record {
        conf = k;
        tables = c.place_edits.new.tables;
        directions = x.directions;
        queues = c.place_edits.new.queues;
      })) (sym set)
          (subst (λ ts. IsConsistent (record {
            conf = x.conf;
            tables = ts;
            directions = x.directions;
            queues = c.place_edits.new.queues;
          })) (sym placed)
          (plan_followed e sound configured ups edit (made_in e.tables x) is
          (subst IsConfigured c.deref.ensures c.facts-2.ensures.configured) c.clear_down.new.queues
          c.place_edits.new.queues cleared pushed).0),
      subst AreOfPrefixes (sym placed)
          (plan_of_prefixes e sound configured ups edit (made_in e.tables x) is c.self.invariant.1),
      subst (λ k. AreOverSessionsUp k c.place_edits.new.tables) (sym set)
          (subst (AreOverSessionsUp x.conf) (sym placed)
          (plan_over_sessions_up e sound configured ups edit (made_in e.tables x) is)),
    )

pub returns : goal.returns
returns g c =
    let e : State = record {
      conf = c.self.inside.conf;
      tables = c.self.inside.tables;
      directions = c.self.inside.directions;
      queues = c.self.inside.queues;
    } in
    let x : Edited = record {
      conf = arc_value c.into_inner-conf.result.conf;
      directions = c.into_inner-conf.result.directions;
      edits = c.into_inner-conf.result.edits;
    } in
    let shown : x ≡ c.args.edited =
    ap (λ v. record { conf = arc_value v.conf; directions = v.directions; edits = v.edits })
    c.into_inner-conf.ensures ∙ c.edited.view_is in
    let there : IsCleared e c.deref-2.result.now c.clear_down.new.queues = record {
      up = c.clear_down.ensures.up;
      down = c.clear_down.ensures.down;
      empty = c.clear_down.ensures.empty;
    } in
    let cleared : IsCleared e x.conf c.clear_down.new.queues =
    subst (λ k. IsCleared e k c.clear_down.new.queues) c.deref-2.ensures there in
    let pushed : IsPushed (made_in e.tables x) c.clear_down.new.queues c.place_edits.new.queues =
    λ f t. c.place_edits.ensures.queue f t
    ∙ ap (λ l. queue_at c.clear_down.new.queues f t ++ told_by_all l f t) (ap edits_send c.into_vec.ensures
    ∙ sym (sends_whole e.tables x.edits)) in
    let whole = whole_changes e.tables x.edits in
    let set : c.set.new.self ≡ x.conf = c.set.ensures in
    λ edit given.
    let is : IsPlanned e edit x = subst (λ n. IsPlanned n edit x) (sym c.self.view_is)
    (subst (IsPlanned c.args.self.now edit) (sym shown) given) in
    let placed : c.place_edits.new.tables ≡ with_changes whole e.tables = c.place_edits.ensures.tables
    ∙ ap (λ l. with_edits l e.tables) c.into_vec.ensures ∙ plan_placed e c.self.invariant.0 edit x is in
    ap (λ k. network (record {
      conf = k;
      tables = c.place_edits.new.tables;
      directions = x.directions;
      queues = c.place_edits.new.queues;
    })) set
    ∙ ap (λ ts. network (record {
      conf = x.conf;
      tables = ts;
      directions = x.directions;
      queues = c.place_edits.new.queues;
    })) placed
    ∙ (plan_followed e c.self.invariant.0 c.facts.ensures.configured c.self.invariant.2 edit (made_in e.tables x) is
    (subst IsConfigured c.deref.ensures c.facts-2.ensures.configured) c.clear_down.new.queues
    c.place_edits.new.queues cleared pushed).1
    ∙ ap (λ n. with_sent (network n) (after_edit (network n) edit)) c.self.view_is
