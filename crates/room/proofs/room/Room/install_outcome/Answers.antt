use Rattle.std.proofs.Common.{rules, ◌≡◌, ◌+◌, ◌∷◌, [], ◌++◌, length, sym, ap, subst, ◌∙◌, length-append, arith}
use Rattle.session_queue.specs.Telling.{prefix_of, kind_of}
use Rattle.sim_event.specs.declared.entry.Entry.{Entry}
use Rattle.sim_event.specs.declared.event.Event.TheVariants.{Deliver}
use Rattle.sim_event.specs.declared.reply.Reply.TheVariants.{Took}
use Rattle.reference_machine.specs.Machine.{step, delivery_refusal}
use Rattle.cell_engine.specs.State.{State, network}
use Rattle.sim_core.specs.Installing.{IsOutcomeOfHead}
use Rattle.sim_core.specs.Counting.{Counts}
use Rattle.room.specs.Books.{RoomBook, IsKept, version_of}
use Rattle.room.specs.Commits.{delivery_of}
use Rattle.room.proofs.Grown.{version_push, kept_push}
use Rattle.room.proofs.Known.{conf_after_delivery, conf_still}
use Rattle.room.proofs.Taken.{seen_allowed, seen_outcome, seen_took}
use Rattle.room.proofs.room.Room.install_outcome.Goals as goal

pub install-requires-clause-allowed : goal.install-requires-clause-allowed
install-requires-clause-allowed g c =
    let room = c.args.self.now in
    let kept : IsKept room = subst IsKept c.self.view_is c.self.invariant.0 in
    (λ i. delivery_refusal (c.self.view_is i).engine.conf (c.direction-direction.ensures i))
    ∙ seen_allowed room kept c.engine_facts.ensures.sound c.args.job.now c.requires.seen

pub install-requires-clause-head : goal.install-requires-clause-head
install-requires-clause-head g c =
    let room = c.args.self.now in
    let kept : IsKept room = subst IsKept c.self.view_is c.self.invariant.0 in
    subst (λ (e : State). IsOutcomeOfHead e c.direction-direction.result c.args.outcome)
    (sym (ap (λ r. r.engine) c.self.view_is))
    (subst (λ d. IsOutcomeOfHead room.engine d c.args.outcome) (sym c.direction-direction.ensures)
    (seen_outcome room kept c.engine_facts.ensures.sound c.args.job.now c.requires.seen c.args.outcome
    c.requires.outcome))

pub invariant_of-self-2 : goal.invariant_of-self-2
invariant_of-self-2 g c =
    let i = c.self.invariant in
    let room = c.args.self.now in
    let kept : IsKept room = subst IsKept c.self.view_is i.0 in
    let x = c.args.job.now in
    let es = c.self.inside.history.entries in
    let e = c.self.inside.sim.engine in
    let state : e ≡ room.engine = ap (λ r. r.engine) c.self.view_is in
    let took = Took (prefix_of x.head) (kind_of x.head) in
    let entry : Entry = record { seat = c.seat.inside.number; event = delivery_of x; reply = took } in
    let zero : version_of es ≡ version_of es + 0 = omega arith in
    let now : c.write.new.self.entries ≡ es ++ entry ∷ [] = search rules in
    let next : network c.install.new.self.engine ≡ (step (network e) (delivery_of x)).next = search rules in
    let dirs = c.direction-direction.ensures in
    let before : RoomBook = record {
      history = es;
      engine = e;
      decided = c.self.inside.sim.decided;
      seats = c.self.inside.seats;
    } in
    let after : RoomBook = record {
      history = c.write.new.self.entries;
      engine = c.install.new.self.engine;
      decided = c.install.new.self.decided;
      seats = c.self.inside.seats;
    } in
    let replies : took ≡ (step (network e) (delivery_of x)).reply =
    sym (seen_took room kept c.engine_facts.ensures.sound x c.requires.seen)
    ∙ ap (λ n. (step (network n) (delivery_of x)).reply) (sym state) in
    let told : c.in-Ok.reply ≡ took = c.in-Ok.ensures.reply
    ∙ (λ i. (step (network e) (Deliver (dirs i).from (dirs i).to)).reply) ∙ sym replies in
    let counts : Counts (network e) (delivery_of x) took before.decided after.decided =
    subst (λ r. Counts (network e) (delivery_of x) r before.decided after.decided) told
    (subst (λ d. Counts (network e) (Deliver d.from d.to) c.in-Ok.reply before.decided after.decided) dirs
    c.in-Ok.ensures.decided) in (
      kept_push before after c.seat.inside.number (delivery_of x) took i.0 now
          replies
          next
          counts,
      i.1 ∙ zero ∙ sym (version_push es entry) ∙ ap version_of (sym now),
      c.add.ensures.total ∙ ap (λ k. k + 1) i.2 ∙ sym (ap length now ∙ length-append _ _),
      i.3,
      i.4,
      i.5,
    )

pub returns-clause-delivered : goal.returns-clause-delivered
returns-clause-delivered g c =
    let room = c.args.self.now in
    let kept : IsKept room = subst IsKept c.self.view_is c.self.invariant.0 in
    let x = c.args.job.now in
    let state : c.self.inside.sim.engine ≡ room.engine = ap (λ r. r.engine) c.self.view_is in
    let dirs = c.direction-direction.ensures in
    let replies : c.in-Ok.reply ≡ (step (network room.engine) (delivery_of x)).reply =
    c.in-Ok.ensures.reply ∙ (λ i. (step (network (state i)) (Deliver (dirs i).from (dirs i).to)).reply) in
    let decided : c.self.inside.sim.decided ≡ room.decided = ap (λ r. r.decided) c.self.view_is in
    let counts : Counts (network room.engine) (delivery_of x) c.in-Ok.reply room.decided c.install.new.self.decided =
    subst (λ n. Counts (network room.engine) (delivery_of x) c.in-Ok.reply n c.install.new.self.decided) decided
    (subst (λ n. Counts (network n) (delivery_of x) c.in-Ok.reply c.self.inside.sim.decided c.install.new.self.decided)
    state
    (subst (λ d. Counts (network c.self.inside.sim.engine) (Deliver d.from d.to) c.in-Ok.reply c.self.inside.sim.decided
    c.install.new.self.decided) dirs c.in-Ok.ensures.decided)) in
    let took : Took (prefix_of x.head) (kind_of x.head) ≡ c.in-Ok.reply =
    sym (seen_took room kept c.engine_facts.ensures.sound x c.requires.seen) ∙ sym replies in
    record {
      replies = replies;
      state = c.in-Ok.ensures.next ∙ (λ i. (step (network (state i)) (Deliver (dirs i).from (dirs i).to)).next);
      counted = counts;
      history = search rules;
      notes = search rules;
      seats = search rules;
    }

pub returns-in-Err-clause-conf : goal.returns-in-Err-clause-conf
returns-in-Err-clause-conf g c =
    conf_still c.self.inside.sim.engine c.install.new.self.engine c.in-Err.ensures.same
    ∙ ap (λ r. r.engine.conf) c.self.view_is

pub returns-clause-conf : goal.returns-clause-conf
returns-clause-conf g c =
    let e = c.self.inside.sim.engine in
    let x = c.args.job.now in
    let next : network c.install.new.self.engine ≡ (step (network e) (delivery_of x)).next =
    c.in-Ok.ensures.next ∙ (λ i.
    (step (network e) (Deliver (c.direction-direction.ensures i).from
    (c.direction-direction.ensures i).to)).next) in
    conf_after_delivery e c.install.new.self.engine x next ∙ ap (λ r. r.engine.conf) c.self.view_is
