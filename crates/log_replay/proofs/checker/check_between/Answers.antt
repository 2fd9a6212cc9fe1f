use Rattle.std.proofs.Common.{◌≡◌, drop, subst, Some, None}
use Rattle.std.proofs.lemmas.Bool.{iff_false}
use Rattle.log_text.specs.declared.version.Version.TheVariants.{Two}
use Rattle.log_replay.specs.Reading.{IsAtStage, Calls}
use Rattle.log_replay.proofs.Checking.{end_taken, between_bad, call_taken, call_wanting, call_unread}
use Rattle.log_replay.proofs.checker.check_between.Goals as goal

pub returns-then-is_end-clause-checked : goal.returns-then-is_end-clause-checked
returns-then-is_end-clause-checked g c = λ p h.
    let k = c.args.checker.now in
    let s = g.M.Machine.network c.args.machine.now in
    let due = drop k.at k.due.items in
    end_taken c.args.version k.entries due c.args.line.now s p
    (subst (λ t. IsAtStage t k.entries due s p) c.requires.stage h) c.requires.none
    (c.is_end.ensures.0 c.if-is_end.true)

pub returns-in-None-clause-checked : goal.returns-in-None-clause-checked
returns-in-None-clause-checked g c = λ p h.
    let k = c.args.checker.now in
    let s = g.M.Machine.network c.args.machine.now in
    let due = drop k.at k.due.items in
    let none : c.in_ok-event.field-0 ≡ None = cc in
    between_bad c.args.version k.entries due c.args.line.now s p
    (subst (λ t. IsAtStage t k.entries due s p) c.requires.stage h) c.requires.none
    (λ e. iff_false c.is_end.ensures c.if-is_end.false e)
    (subst (Calls c.args.version c.args.line.now) none c.in_ok-event.ensures)

pub returns-clause-checked : goal.returns-clause-checked
returns-clause-checked g c = λ p h.
    let k = c.args.checker.now in
    let s = g.M.Machine.network c.args.machine.now in
    let due = drop k.at k.due.items in
    let some : c.in_ok-event.field-0 ≡ Some c.in-Some.event = cc in
    call_taken c.args.version k.entries due c.args.line.now c.in_ok-due.due.items s
    (g.M.Machine.network c.answer.new.machine) p c.in-Some.event
    (subst (λ t. IsAtStage t k.entries due s p) c.requires.stage h) c.requires.none
    (subst (Calls c.args.version c.args.line.now) some c.in_ok-event.ensures) c.replies_are_lines.ensures
    c.in_ok-due.ensures.due c.in_ok-due.ensures.state

pub returns-in_err-event-clause-checked : goal.returns-in_err-event-clause-checked
returns-in_err-event-clause-checked g c = λ p h.
    let k = c.args.checker.now in
    let s = g.M.Machine.network c.args.machine.now in
    let due = drop k.at k.due.items in
    call_unread c.from_residual.result p c.args.line.now k s c.from_residual.ensures.0
    (call_wanting c.args.version k.entries due c.args.line.now s p
    (subst (λ t. IsAtStage t k.entries due s p) c.requires.stage h) c.requires.none (
      Two,
      c.in_err-event.ensures.0,
      c.in_err-event.ensures.1,
    ))

pub returns-in_err-due-clause-checked : goal.returns-in_err-due-clause-checked
returns-in_err-due-clause-checked g c = λ p h.
    let k = c.args.checker.now in
    let s = g.M.Machine.network c.args.machine.now in
    let due = drop k.at k.due.items in
    let some : c.in_ok-event.field-0 ≡ Some c.in-Some.event = cc in
    let call = subst (Calls c.args.version c.args.line.now) some c.in_ok-event.ensures in
    call_unread c.from_residual-in_err-due.result p c.args.line.now k (g.M.Machine.network c.answer.new.machine)
    c.from_residual-in_err-due.ensures.0 (call_wanting c.args.version k.entries due c.args.line.now s p
    (subst (λ t. IsAtStage t k.entries due s p) c.requires.stage h) c.requires.none (
      c.args.version,
      c.in-Some.event,
      call,
    ))
