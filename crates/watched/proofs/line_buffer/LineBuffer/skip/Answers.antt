use Rattle.std.proofs.Common.{ℕ, ◌∙◌, ap, drop, arith}
use Rattle.std.proofs.lemmas.List.{length-take, length-drop}
use Rattle.watched.proofs.BufferLemmas.{consumed}
use Rattle.watched.proofs.line_buffer.LineBuffer.skip.Goals as goal

pub returns : goal.returns
returns g c =
    let b = c.self.inside in
    let fits = rw (← c.self.view_is) at c.requires in
    consumed b.bytes.items b.start b.end c.args.count (omega (arith, fits, length-take {A = ℕ}, length-drop {A = ℕ}))
    ∙ ap (drop c.args.count) c.self.view_is
