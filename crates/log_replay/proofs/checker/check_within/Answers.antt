use Rattle.std.proofs.Common.{◌≡◌, ◌-◌, drop, arith, length, subst, sym, ap, ◌∙◌}
use Rattle.std.proofs.lemmas.Bool.{iff_false}
use Rattle.log_replay.specs.Reading.{IsAtStage}
use Rattle.log_replay.proofs.Checking.{due_differs, due_taken, rest_at}
use Rattle.log_replay.proofs.checker.check_within.Goals as goal

pub returns-then-not-is_same-clause-checked : goal.returns-then-not-is_same-clause-checked
returns-then-not-is_same-clause-checked g c = λ p h.
    let k = c.args.checker.now in
    let s = g.M.Machine.network c.args.machine.now in
    let due = drop k.at k.due.items in
    due_differs c.args.version k.entries due c.in-Some.next.now c.in-Some.rest.now c.args.line.now s p
    (subst (λ t. IsAtStage t k.entries due s p) c.requires.stage h)
    (sym c.due_text.ensures ∙ c.in-Some.ensures.whole) c.in-Some.ensures.first
    (λ e. iff_false c.is_same.ensures c.if-not-is_same.true e)

pub returns-clause-checked : goal.returns-clause-checked
returns-clause-checked g c = λ p h.
    let k = c.args.checker.now in
    let s = g.M.Machine.network c.args.machine.now in
    let due = drop k.at k.due.items in
    let next = c.in-Some.next.now in
    let rest = c.in-Some.rest.now in
    let cut = sym c.due_text.ensures ∙ c.in-Some.ensures.whole in
    let left = drop (c.len.result - length rest) k.due.items in
    let len : c.len.result ≡ length k.due.items = omega (arith, c.len.ensures, k.due.ok.0) in
    let taken = due_taken c.args.version k.entries due next rest c.args.line.now left s p
    (subst (λ t. IsAtStage t k.entries due s p) c.requires.stage h)
    cut c.in-Some.ensures.first (c.is_same.ensures.0 c.if-not-is_same.false)
    (ap (λ n. drop (n - length rest) k.due.items) len ∙ rest_at k.due.items next rest k.at cut) in
    (taken.0, taken.1, subst (λ t. IsAtStage t k.entries left s taken.0) (sym c.requires.stage) taken.2)
