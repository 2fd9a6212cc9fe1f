use Rattle.std.proofs.Common.{◌<◌, length}
use Rattle.std.specs.Io.KnownBytes.{Consumes}
use Rattle.script_files.specs.Reading.{IsMeasured}
use Rattle.script_files.proofs.files.read_through.Given as goal

-- the script so far is what was read, and it was measured
abbrev pub invariant-loop : goal.invariant-loop
invariant-loop g l = Consumes l.initial.reader.remaining l.reader.remaining l.script.items
    × IsMeasured l.script.items l.measure × (0 < length l.buffer)
