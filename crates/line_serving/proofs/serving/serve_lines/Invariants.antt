use Rattle.std.proofs.Common.{◌≡◌, ◌<◌, true, false, ℕ, List, ◌++◌, Some}
use Rattle.line_serving.specs.Progress.{Reached, work_left}
use Rattle.line_serving.proofs.serving.serve_lines.Given as goal

-- nothing failed, and what is held back is of a line; and where the bytes were known, those left are, and the lines so
-- far were answered
abbrev pub invariant-lines : goal.invariant-lines
invariant-lines g l = record {
  reader : (g.I.Typist.reading l.input).failed ≡ false;
  writer : l.output.failed ≡ false;
  some : l.output.held ≡ true → 0 < l.script.answered;
  known : (bytes : List ℕ) → (g.I.Typist.reading l.fn.input).remaining ≡ Some bytes → (rest : List ℕ)
      × ((g.I.Typist.reading l.input).remaining ≡ Some rest)
      × Reached g.L.Language.answers bytes (l.script.pending ++ rest) l.script.answered l.fn.machine l.fn.output
      l.machine l.output;
}

abbrev pub decreases-lines : goal.decreases-lines
decreases-lines g l = work_left l.script.pending l.script.answered
