use Rattle.std.proofs.Common.{take, subst, ◌∙◌}
use Rattle.std.proofs.lemmas.List.{take_all}
use Rattle.std.proofs.lemmas.List.Elements.{All-more}
use Rattle.cell_engine.specs.Admitting.{AreAdmitted, AreAllAdmitted}
use Rattle.cell_engine.specs.CellEdits.{CellEdit, edit_sends}
use Rattle.cell_engine.proofs.Admitted.{each_still_admitted}
use Rattle.cell_engine.proofs.edits.places.admit_each.Goals as goal

pub loop-edit-preserved : goal.loop-edit-preserved
loop-edit-preserved g c =
    let q = c.loop-edit.queues in
    let r = c.admit_all.new.queues in
    let xs = c.args.edits.now in
    let i = c.loop-edit.edit-index in
    let x : CellEdit = c.edit-item.result in
    let here : AreAdmitted r.admitted (edit_sends x) =
    subst (AreAdmitted r.admitted) c.sends.ensures c.in_ok-admit_all.ensures.admitted in
    let before = each_still_admitted q r c.admit_all.ensures.keeps (take i xs) c.loop-edit.invariant.0 in (
      All-more (λ (y : CellEdit). AreAdmitted r.admitted (edit_sends y)) xs i x c.loop-edit-test.true before
          (subst (λ (y : CellEdit). AreAdmitted r.admitted (edit_sends y)) c.edit-item.is here),
      λ f t. c.admit_all.ensures.queue f t ∙ c.loop-edit.invariant.1 f t,
      λ f t. c.admit_all.ensures.spare f t ∙ c.loop-edit.invariant.2 f t,
    )

pub returns-clause-admitted : goal.returns-clause-admitted
returns-clause-admitted g c =
    subst (AreAllAdmitted c.loop-edit.queues.admitted)
    (take_all c.loop-edit.edit-index c.args.edits.now c.loop-edit-test.false) c.loop-edit.invariant.0
