use Rattle.std.proofs.Common.{◌≡◌, ◌≤◌, ◌++◌, ◌∷◌, List, [], cond, length, refl, sym, ap, subst, ◌∙◌, append_assoc, arith}
use Rattle.std.specs.Cmp.{unsigned_Decides}
use Rattle.std.proofs.lemmas.List.{length-append, append-nil, nil_from_length}
use Rattle.std.proofs.lemmas.List.Elements.{All-head, All-tail}
use Rattle.net_prefix.specs.declared.addr.Addr.{Addr}
use Rattle.session_queue.specs.declared.message.Message.{Message}
use Rattle.session_queue.specs.Waiting.{queue_at, spare_at}
use Rattle.cell_engine.specs.Sending.{told, told_from}
use Rattle.cell_engine.specs.Editing.{told_by_all}
use Rattle.cell_engine.specs.Admitting.{AreAdmitted, AreAllAdmitted}
use Rattle.cell_engine.specs.CellEdits.{CellEdit, edit_sends, edits_send, AreEditsThere, with_edits}
use Rattle.cell_engine.proofs.Whole.{edits_there_still}
use Rattle.cell_engine.proofs.edits.cell_edits.place_edits.Goals as goal

here_alone : (r : Addr) (sends : List (Addr × Message)) (t : Addr) → told_from r sends r t ≡ told t sends
here_alone r sends t = ap (λ b. cond b (told t sends) []) ((unsigned_Decides r.0 r.0).1 refl)

pub place_edit-requires-clause-room : goal.place_edit-requires-clause-room
place_edit-requires-clause-room g c t =
    let x : CellEdit = c.in-Some.edit in
    let rest = c.next.new.self.rest.items in
    let room : length (told_from x.router (edit_sends x) x.router t ++ told_by_all (edits_send rest) x.router t)
    ≤ spare_at c.loop-edit.queues x.router t =
    subst (λ l. length (told_by_all (edits_send l) x.router t) ≤ spare_at c.loop-edit.queues x.router t)
    c.in-Some.ensures.steps.0 (c.loop-edit.invariant.5 x.router t) in
    let both = length-append (told_from x.router (edit_sends x) x.router t)
    (told_by_all (edits_send rest) x.router t) in
    let here = ap (λ l. length l) (here_alone x.router (edit_sends x) t) in
    omega (arith, room, both, here)

pub returns-clause-queue : goal.returns-clause-queue
returns-clause-queue g c f t =
    let q = queue_at c.loop-edit.queues f t in
    let none : c.loop-edit.edit-iterator.rest.items ≡ [] = nil_from_length c.loop-edit.edit-iterator.rest.items
    (sym c.loop-edit.edit-iterator.rest.ok.0 ∙ c.in-None.ensures.steps.0) in
    sym (ap (λ l. q ++ told_by_all (edits_send l) f t) none ∙ append-nil q) ∙ c.loop-edit.invariant.4 f t

pub place_edit-requires-clause-admitted : goal.place_edit-requires-clause-admitted
place_edit-requires-clause-admitted g c =
    let admitted = c.loop-edit.queues.admitted in
    let x : CellEdit = c.in-Some.edit in
    let rest = c.next.new.self.rest.items in
    All-head (λ (y : CellEdit). AreAdmitted admitted (edit_sends y)) x rest
    (subst (AreAllAdmitted admitted) c.in-Some.ensures.steps.0 c.loop-edit.invariant.6)

pub loop-edit-preserved : goal.loop-edit-preserved
loop-edit-preserved g c =
    let ts = c.loop-edit.tables in
    let rest = c.next.new.self.rest.items in
    let items = c.loop-edit.edit-iterator.rest.items in
    let x : CellEdit = c.in-Some.edit in
    let step : items ≡ x ∷ rest = c.in-Some.ensures.steps.0 in
    let there : AreEditsThere (x ∷ rest) ts = subst (λ l. AreEditsThere l ts) step c.loop-edit.invariant.2 in
    let sent : Addr → Addr → List Message = told_from x.router (edit_sends x) in
    let later : Addr → Addr → List Message = told_by_all (edits_send rest) in (
      c.loop-edit.invariant.0,
      c.loop-edit.invariant.1,
      subst (AreEditsThere rest) (sym c.place_edit.ensures.tables) (edits_there_still x rest ts there.1),
      ap (with_edits rest) c.place_edit.ensures.tables ∙ sym (ap (λ l. with_edits l ts) step) ∙ c.loop-edit.invariant.3,
      λ f t.
          ap (λ l. l ++ later f t) (c.place_edit.ensures.queue f t)
          ∙ append_assoc (queue_at c.loop-edit.queues f t) (sent f t) (later f t)
          ∙ sym (ap (λ l. queue_at c.loop-edit.queues f t ++ told_by_all (edits_send l) f t) step)
          ∙ c.loop-edit.invariant.4 f t,
      λ f t.
          let room : length (sent f t ++ later f t) ≤ spare_at c.loop-edit.queues f t =
          subst (λ l. length (told_by_all (edits_send l) f t) ≤ spare_at c.loop-edit.queues f t) step
          (c.loop-edit.invariant.5 f t) in
          let left = c.place_edit.ensures.spare f t in
          let both = length-append (sent f t) (later f t) in
          omega (arith, room, left, both),
      subst (λ a. AreAllAdmitted a rest) (sym c.place_edit.ensures.admitted)
          (All-tail (λ (y : CellEdit). AreAdmitted c.loop-edit.queues.admitted (edit_sends y)) x rest
          (subst (AreAllAdmitted c.loop-edit.queues.admitted) step c.loop-edit.invariant.6)),
    )
