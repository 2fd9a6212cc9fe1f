use Rattle.std.proofs.Common.{ℕ, List, ◌++◌, take}
use Rattle.script_files.specs.Reading.{IsMeasured}
use Rattle.script_files.proofs.files.Measure.take_all.Given as goal

-- the bytes so far were taken
abbrev pub invariant-loop-byte : goal.invariant-loop-byte
invariant-loop-byte l = (read : List ℕ) → IsMeasured read l.initial.self →
    IsMeasured (read ++ take l.byte-index l.bytes) l.self
