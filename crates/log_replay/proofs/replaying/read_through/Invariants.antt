use Rattle.std.proofs.Common.{◌≡◌, ◌≤◌, false, ℕ, List, ◌++◌, Some}
use Rattle.log_replay.specs.Replaying.{most_lines}
use Rattle.log_replay.specs.Progress.{Comes, work_left}
use Rattle.log_replay.proofs.replaying.read_through.Given as goal

-- the reader has not failed, and there is a call a line at most; and where the bytes were known, those left are, and
-- the lines so far brought the log to where the checker and the machine are
abbrev pub invariant-lines : goal.invariant-lines
invariant-lines g l = record {
  reader : l.input.failed ≡ false;
  few : l.progress.lines ≤ most_lines;
  each : l.progress.checker.entries ≤ l.progress.lines;
  known : (bytes : List ℕ) → l.fn.input.remaining ≡ Some bytes → (rest : List ℕ) × (l.input.remaining ≡ Some rest)
      × Comes bytes (l.progress.pending ++ rest) l.progress.lines l.progress.checker (g.M.Machine.network l.machine);
}

abbrev pub decreases-lines : goal.decreases-lines
decreases-lines g l = work_left l.progress.pending l.progress.lines
