use Rattle.std.proofs.Common.{◌≡◌, Some, None, sym, ◌∙◌, subst}
use Rattle.log_text.specs.declared.version.Version.TheVariants.{Two}
use Rattle.log_replay.specs.Reading.{Calls}
use Rattle.log_replay.proofs.Versions.{formed, formless, no_call, call_unread}
use Rattle.log_replay.proofs.call.read_call.Goals as goal

pub returns-in_err-event : goal.returns-in_err-event
returns-in_err-event c = call_unread c.from_residual.result c.args.version c.args.line.now c.from_residual.ensures.0
    c.in_err-event.ensures

pub returns-in-None : goal.returns-in-None
returns-in-None c =
    let none : c.in_ok-event.field-0 ≡ None = cc in
    no_call c.args.version c.args.line.now (subst (Calls Two c.args.line.now) none c.in_ok-event.ensures)

pub returns-then-has_form : goal.returns-then-has_form
returns-then-has_form c =
    let some : c.in_ok-event.field-0 ≡ Some c.in-Some.event = cc in
    formed c.args.version c.args.line.now c.in-Some.event (subst (Calls Two c.args.line.now) some c.in_ok-event.ensures)
    (sym c.has_form.ensures ∙ c.if-has_form.true)

pub returns : goal.returns
returns c =
    let some : c.in_ok-event.field-0 ≡ Some c.in-Some.event = cc in
    formless c.one_meaning.ensures.line c.args.version c.args.line.now c.in-Some.event
    (subst (Calls Two c.args.line.now) some c.in_ok-event.ensures) (sym c.has_form.ensures ∙ c.if-has_form.false)
