use Rattle.std.proofs.Common.{ℕ, sym, subst, map, string_bytes}
use Rattle.bgpsim.specs.Running.{IsProgramRun}
use Rattle.bgpsim.proofs.running.run.Goals as goal

pub returns : goal.returns
returns g c =
    let old = c.args.streams.now in
    let new = c.run_words.new.streams in
    let P : ℕ → Type 0 = λ status. IsProgramRun (map string_bytes c.args.words.now)
    old.is_terminal old.input old.output old.errors status new.input new.output new.errors in
    subst P (sym c.from.ensures) c.run_words.ensures
