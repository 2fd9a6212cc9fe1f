use Rattle.std.proofs.Common.{rules, ◌≡◌, ◌+◌, ◌∷◌, [], ◌++◌, length, cond, sym, ap, subst, ◌∙◌, length-append}
use Rattle.sim_event.specs.declared.entry.Entry.{Entry}
use Rattle.sim_core.specs.Plans.{IsPrepared}
use Rattle.room.specs.Books.{RoomBook, is_edit, is_accepted_edit, version_of}
use Rattle.room.proofs.Grown.{version_push, accepted_one, kept_push, prepared_counts}
use Rattle.room.proofs.room.Room.accept.Goals as goal

pub invariant_of-self-2 : goal.invariant_of-self-2
invariant_of-self-2 g c =
    let i = c.self.invariant in
    let es = c.self.inside.history.entries in
    let event = c.args.event in
    let reply = c.args.plan.reply in
    let x : Entry = record { seat = c.seat.inside.number; event = event; reply = reply } in
    let now : c.write.new.self.entries ≡ es ++ x ∷ [] = search rules in
    let state : c.self.inside.sim.engine ≡ c.args.self.now.engine = ap (λ r. r.engine) c.self.view_is in
    let prepared : IsPrepared c.self.inside.sim.engine event c.args.plan =
    subst (λ n. IsPrepared n event c.args.plan) (sym state) c.requires in
    let room : RoomBook = record {
      history = es;
      engine = c.self.inside.sim.engine;
      decided = c.self.inside.sim.decided;
      seats = c.self.inside.seats;
    } in
    let next : RoomBook = record {
      history = c.write.new.self.entries;
      engine = c.apply-reply.new.self.engine;
      decided = c.apply-reply.new.self.decided;
      seats = c.self.inside.seats;
    } in
    let one : c.edits_in-edits.result ≡ cond (is_accepted_edit x) 1 0 = c.edits_in-edits.ensures
    ∙ sym (accepted_one (is_edit event) reply c.requires.accepted) in (
      kept_push room next c.seat.inside.number event reply i.0 now
          prepared.reply
          (c.apply-reply.ensures.next event prepared)
          (prepared_counts c.self.inside.sim.engine event c.args.plan room.decided next.decided prepared
          c.apply-reply.ensures.decided),
      ap (λ k. k + c.edits_in-edits.result) i.1 ∙ ap (λ k. version_of es + k) one ∙ sym (version_push es x)
          ∙ ap version_of (sym now),
      c.add.ensures.total ∙ ap (λ k. k + 1) i.2 ∙ sym (ap length now ∙ length-append _ _),
      i.3,
      i.4,
      i.5,
    )

pub invariant_of-seat-2 : goal.invariant_of-seat-2
invariant_of-seat-2 g c =
    let i = c.seat.invariant in
    let now : c.write.new.notes.items ≡ c.seat.inside.notes.items ++ c.in-Ok.draft.call ∷ [] = search rules in (
      ap (λ k. k + 1) i.0 ∙ sym (ap length now ∙ length-append _ _),
      c.add.ensures.amount ∙ ap (λ k. k + 1) i.1,
      c.add.ensures.parts ∙ i.2,
    )
