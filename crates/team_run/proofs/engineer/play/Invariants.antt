use Rattle.std.proofs.Common.{◌+◌, List, [], length}
use Rattle.std.specs.Str.Lines.{lines}
use Rattle.room.specs.Books.{SeatBook}
use Rattle.team_run.specs.declared.told.ToldLine.{ToldLine}
use Rattle.team_run.specs.Playing.{AreCalledFrom}
use Rattle.team_run.proofs.engineer.play.Given as goal

-- once the lines that are left are called too, the whole script is
abbrev pub invariant-loop-line : goal.invariant-loop-line
invariant-loop-line g l = (end : SeatBook) (told : List ToldLine)
    → AreCalledFrom l.file (l.lines.before + 1) l.lines.left l.seat end l.told told →
    AreCalledFrom l.fn.engineer.file 1 (lines l.fn.engineer.script) l.fn.engineer.seat end [] told

abbrev pub decreases-loop-line : goal.decreases-loop-line
decreases-loop-line g l = length l.lines.left
