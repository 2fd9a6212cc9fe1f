-- What is prepared for each kind of event, after the state has grown.
use Rattle.std.proofs.Common.{◌≡◌, ◌<◌, List, [], slice_get, Some, None, refl, sym, ap, subst, ◌∙◌}
use Rattle.net_prefix.specs.declared.addr.Addr.{Addr}
use Rattle.net_prefix.specs.Prefix.{Prefix}
use Rattle.net_conf.specs.Configured.{IsConfigured}
use Rattle.session_queue.specs.declared.direction.Direction.{Direction}
use Rattle.session_queue.specs.declared.message.Message.{Message}
use Rattle.session_queue.specs.Telling.{prefix_of, kind_of}
use Rattle.session_queue.specs.Waiting.{queue_at, spare_at, IsAdmitted}
use Rattle.net_conf.specs.declared.edit.Edit.{Edit}
use Rattle.net_conf.specs.Edits.{edited, refusal_of}
use Rattle.net_conf.specs.Scopes.{scope}
use Rattle.sim_event.specs.declared.event.Event.{Event}
use Rattle.sim_event.specs.declared.event.Event.TheVariants.{Edit as AnEdit, Feed as AFeed, Deliver, Ask as AnAsk}
use Rattle.sim_event.specs.declared.event.Feed.{Feed}
use Rattle.sim_event.specs.declared.event.Ask.{Ask}
use Rattle.sim_event.specs.declared.reply.Report.{Report}
use Rattle.sim_event.specs.declared.reply.Reply.TheVariants.{Done, Took, Report as AReport}
use Rattle.reference_machine.specs.Machine.{after_edit, with_sent, step, feed_refusal, fed_message, delivery_refusal, ask_refusal, report_of}
use Rattle.cell_engine.specs.Cells.{Outcome}
use Rattle.cell_engine.specs.State.{State, IsConsistent, network}
use Rattle.cell_engine.specs.Changes.{AreOverSessionsUp, changes_in}
use Rattle.cell_engine.specs.Decisions.{IsRefreshed}
use Rattle.cell_engine.specs.Editing.{with_directions, with_origin}
use Rattle.cell_engine.specs.Deliveries.{outcome_at, HasRoom, KeepsSame}
use Rattle.cell_engine.specs.Edits.{Edited, IsPlanned, HasPlaces, made_in, refreshed_by}
use Rattle.cell_engine.proofs.Redecided.{refreshes}
use Rattle.cell_engine.proofs.Growth.{network_kept, head_of, head_kept}
use Rattle.sim_core.specs.Counting.{decided_at}
use Rattle.sim_core.specs.Plans.{fed_in, IsPrepared}
use Rattle.sim_core.proofs.Accepted.{edit_done, feed_done, delivery_takes, prefix_taken, question_answered}

-- the reply stays the machine's
reply_kept : (e e' : State) → KeepsSame e e' → (event : Event) →
    (step (network e) event).reply ≡ (step (network e') event).reply
reply_kept e e' same event = sym (ap (λ n. (step n event).reply) (network_kept e e' same))

-- a plan of an edit stays one while the tables stay
planned_still : (e e' : State) → KeepsSame e e' → e'.tables ≡ e.tables → (edit : Edit) (x : Edited) →
    IsPlanned e edit x → IsPlanned e' edit x
planned_still e e' same tables edit x is = record {
  allowed = ap (λ c. refusal_of c edit) same.conf ∙ is.allowed;
  origin = ap (with_origin edit) tables ∙ is.origin ∙ sym tables;
  plan = ap (λ ts. made_in ts x) tables ∙ is.plan ∙ sym (λ i. record {
    conf = edited (same.conf i) edit;
    directions = with_directions edit (same.directions i);
    changes = changes_in (scope edit) (same.conf i) (edited (same.conf i) edit) (tables i);
  });
}

pub prepared_edit : (e e' : State) → KeepsSame e e' → e'.tables ≡ e.tables → IsConsistent e' → IsConfigured e'.conf →
    AreOverSessionsUp e'.conf e'.tables → (edit : Edit) (x : Edited) → IsPlanned e edit x → HasPlaces e' x →
    (cells : List (Addr × Prefix)) → cells ≡ refreshed_by x →
    IsPrepared e' (AnEdit edit) (record {
      reply = Done;
      refreshed = cells;
      pushed = None;
      taken = None;
      edited = Some x;
    })
unfolding network
prepared_edit e e' same tables sound configured up edit x is room cells are =
    let still = planned_still e e' same tables edit x is in
    let next = sym (ap (λ o. o.next) (edit_done (network e') edit still.allowed)) in
    record {
      reply = sym (ap (λ o. o.reply) (edit_done (network e) edit is.allowed)) ∙ reply_kept e e' same (AnEdit edit);
      accepted = refl;
      refreshes = subst (λ t. IsRefreshed (network e') t cells) next
          (subst (IsRefreshed (network e') (with_sent (network e') (after_edit (network e') edit))) (sym are)
          (refreshes e' sound configured up edit still.allowed still.origin x still));
      does = record { plan = x; pushed = refl; taken = refl; edited = refl; is = still; room = room };
    }

pub prepared_feed : (e e' : State) → KeepsSame e e' → (f : Feed) (m : Message) → feed_refusal e.conf f ≡ None →
    m ≡ fed_message f.from f.news → 0 < spare_at e'.queues f.from f.to → IsAdmitted e'.queues m →
    (cells : List (Addr × Prefix)) → cells ≡ [] →
    IsPrepared e' (AFeed f) (record {
      reply = Done;
      refreshed = cells;
      pushed = Some (fed_in f, m);
      taken = None;
      edited = None;
    })
unfolding network
prepared_feed e e' same f m none is room admitted cells are = record {
  reply = sym (ap (λ o. o.reply) (feed_done (network e) f none)) ∙ reply_kept e e' same (AFeed f);
  accepted = refl;
  refreshes = are;
  does = record {
    pushed = ap (λ w. Some (fed_in f, w)) is;
    taken = refl;
    edited = refl;
    room = room;
    admitted = subst (IsAdmitted e'.queues) is admitted;
  };
}

pub prepared_delivery : (e e' : State) → KeepsSame e e' → IsConsistent e → (d : Direction) (m : Message) (o : Outcome) →
    delivery_refusal e.conf d ≡ None → slice_get (queue_at e.queues d.from d.to) 0 ≡ Some m → o ≡ outcome_at e d m →
    HasRoom e' d.to (prefix_of m) o.sends → (cells : List (Addr × Prefix)) →
    cells ≡ decided_at e'.conf d.to (prefix_of m) →
    IsPrepared e' (Deliver d.from d.to) (record {
      reply = Took (prefix_of m) (kind_of m);
      refreshed = cells;
      pushed = None;
      taken = Some (record { direction = d; prefix = prefix_of m; outcome = o });
      edited = None;
    })
unfolding network
prepared_delivery e e' same sound d m o none first is room cells are = record {
  reply = sym (delivery_takes e sound d none m first) ∙ reply_kept e e' same (Deliver d.from d.to);
  accepted = refl;
  refreshes = λ p k took.
      are ∙ ap (decided_at e'.conf d.to)
      (prefix_taken e sound d none m first p k (reply_kept e e' same (Deliver d.from d.to) ∙ took));
  does = record {
    prefix = prefix_of m;
    outcome = o;
    pushed = refl;
    taken = refl;
    edited = refl;
    head = head_kept e e' same d (prefix_of m) o (head_of e d m o first is);
    room = room;
  };
}

pub prepared_answer : (e : State) (q : Ask) (r : Report) → ask_refusal (network e).conf q ≡ None →
    r ≡ report_of (network e) q → (cells : List (Addr × Prefix)) → cells ≡ [] →
    IsPrepared e (AnAsk q) (record { reply = AReport r; refreshed = cells; pushed = None; taken = None; edited = None })
prepared_answer e q r none is cells are = record {
  reply = ap AReport is ∙ sym (ap (λ o. o.reply) (question_answered (network e) q none));
  accepted = refl;
  refreshes = are;
  does = record { pushed = refl; taken = refl; edited = refl };
}
