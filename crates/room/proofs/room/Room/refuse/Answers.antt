use Rattle.std.proofs.Common.{rules, ◌≡◌, ◌+◌, ◌∷◌, [], ◌++◌, length, refl, sym, ap, ◌∙◌, length-append, arith}
use Rattle.sim_event.specs.declared.entry.Entry.{Entry}
use Rattle.sim_event.specs.declared.reply.Reply.TheVariants.{Refused}
use Rattle.reference_machine.specs.Machine.{step}
use Rattle.cell_engine.specs.State.{network}
use Rattle.room.specs.Books.{RoomBook, is_edit, version_of}
use Rattle.room.proofs.Grown.{version_push, refused_none, kept_push}
use Rattle.room.proofs.room.Room.refuse.Goals as goal

pub invariant_of-self-2 : goal.invariant_of-self-2
invariant_of-self-2 g c =
    let i = c.self.invariant in
    let es = c.self.inside.history.entries in
    let event = c.args.event in
    let e = c.self.inside.sim.engine in
    let x : Entry = record { seat = c.seat.inside.number; event = event; reply = Refused c.args.refusal } in
    let zero : version_of es ≡ version_of es + 0 = omega arith in
    let now : c.write.new.self.entries ≡ es ++ x ∷ [] = search rules in
    let state : e ≡ c.args.self.now.engine = ap (λ r. r.engine) c.self.view_is in
    let refuses = ap (λ n. step (network n) event) state ∙ c.requires in
    let room : RoomBook = record {
      history = es;
      engine = e;
      decided = c.self.inside.sim.decided;
      seats = c.self.inside.seats;
    } in
    let next : RoomBook = record room { history = c.write.new.self.entries } in (
      kept_push room next c.seat.inside.number event (Refused c.args.refusal) i.0 now
          (sym (ap (λ o. o.reply) refuses))
          (ap network state ∙ sym (ap (λ o. o.next) refuses))
          refl,
      i.1 ∙ zero ∙ sym (version_push es x ∙ ap (λ k. version_of es + k) (refused_none (is_edit event)))
          ∙ ap version_of (sym now),
      c.add.ensures.total ∙ ap (λ k. k + 1) i.2 ∙ sym (ap length now ∙ length-append _ _),
      i.3,
      i.4,
      i.5,
    )
