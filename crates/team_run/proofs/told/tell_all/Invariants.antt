use Rattle.std.proofs.Common.{map, take}
use Rattle.team_run.specs.Playing.{all_told}
use Rattle.team_run.specs.TeamRun.{AreTold, told_text}
use Rattle.team_run.proofs.told.tell_all.Given as goal

-- the lists so far were told
abbrev pub invariant-loop-told : goal.invariant-loop-told
invariant-loop-told g l = AreTold l.fn.errors (map told_text (all_told (take l.told-index l.all))) l.errors
