use Rattle.std.proofs.Common.{arith, inl, inr, ⊎_elim, sym, subst}
use Rattle.std.specs.Io.KnownBytes.{Consumes}
use Rattle.std.proofs.lemmas.Result.{err_from_is_err_and}
use Rattle.script_files.proofs.Reading.{all_read, consumes_both}
use Rattle.script_files.proofs.Limits.{unfit_at_end, unfit_whole}
use Rattle.script_files.proofs.files.read_through.Goals as goal

pub returns-in_err-read_on-clause-fault : goal.returns-in_err-read_on-clause-fault
returns-in_err-read_on-clause-fault g c =
    let p = err_from_is_err_and c.from_residual.result c.from_residual.ensures.1 in
    rw (p.1, p.2) (λ is. ⊎_elim (λ failed. inl failed)
    (λ unfit. inr (unfit_whole c.args.reader.now.remaining c.loop.reader.remaining c.loop.script.items
    c.loop.invariant.0 unfit))
    (c.in_err-read_on.ensures.fault is c.loop.invariant.1))

pub returns-else-may_end-clause-fault : goal.returns-else-may_end-clause-fault
returns-else-may_end-clause-fault g c = λ e.
    let old = c.args.reader.now.remaining in
    let new = c.read_on.new.reader.remaining in
    let script = c.read_on.new.script.items in
    let more = c.in_ok-read_on.ensures.more in
    let all : Consumes old new script =
    subst (λ s. Consumes old new s) (sym more.2)
    (consumes_both old c.loop.reader.remaining new c.loop.script.items more.0 c.loop.invariant.0 more.1) in
    inr (unfit_at_end old script (all_read old new script all (more.3 c.if-not-branch.true))
    (c.may_end.ensures.unfit c.if-may_end.false script (c.in_ok-read_on.ensures.measured c.loop.invariant.1)))

pub loop-preserved : goal.loop-preserved
loop-preserved g c =
    let old = c.args.reader.now.remaining in
    let new = c.read_on.new.reader.remaining in
    let more = c.in_ok-read_on.ensures.more in (
      subst (λ s. Consumes old new s) (sym more.2)
          (consumes_both old c.loop.reader.remaining new c.loop.script.items more.0 c.loop.invariant.0 more.1),
      c.in_ok-read_on.ensures.measured c.loop.invariant.1,
      omega (arith, c.read_on.auto.buffer, c.loop.invariant.2),
    )
