use Rattle.std.proofs.Common.{ℕ, List, Ok}
use Rattle.std.proofs.lemmas.Result.{err_from_is_err_and}
use Rattle.log_replay.specs.Replaying.{IsReplay}
use Rattle.log_replay.proofs.Steps.{if_known, ended_advance, more_advance}
use Rattle.log_replay.proofs.replaying.read_through.Goals as goal

pub returns-in_err-verdict-clause-replayed : goal.returns-in_err-verdict-clause-replayed
returns-in_err-verdict-clause-replayed g c =
    let P : List ℕ → Type 0 = λ bytes. IsReplay bytes c.from_residual.result c.advance.new.input in
    if_known c.args.input.now.remaining P (λ bytes known.
    let now = c.lines.invariant.known bytes known in
    let p = err_from_is_err_and c.from_residual.result c.from_residual.ensures.1 in
    rw (p.1, p.2) (c.in_err-verdict.ensures.advance bytes now.0 now.1 now.2))

pub returns-in-Some-clause-replayed : goal.returns-in-Some-clause-replayed
returns-in-Some-clause-replayed g c =
    let progress = c.advance.new.progress in
    let input = c.advance.new.input in
    let P : List ℕ → Type 0 = λ bytes. IsReplay bytes (Ok c.in-Some.verdict) input in
    if_known c.args.input.now.remaining P (λ bytes known.
    let now = c.lines.invariant.known bytes known in
    ended_advance bytes progress.pending c.in_ok-verdict.field-0 c.in-Some.verdict progress.lines progress.checker
    (g.M.Machine.network c.advance.new.machine) input c.in-Some.is
    (c.in_ok-verdict.ensures.advance bytes now.0 now.1 now.2))

pub lines-preserved : goal.lines-preserved
lines-preserved g c =
    let progress = c.advance.new.progress in
    let said = c.in_ok-verdict.ensures in
    let none = c.in_default.is in record {
      reader = said.reader;
      few = said.few none;
      each = said.each none;
      known = λ bytes known.
          let now = c.lines.invariant.known bytes known in
          more_advance bytes progress.pending c.in_ok-verdict.field-0 progress.lines progress.checker
          (g.M.Machine.network c.advance.new.machine) c.advance.new.input none
          (said.advance bytes now.0 now.1 now.2);
    }
