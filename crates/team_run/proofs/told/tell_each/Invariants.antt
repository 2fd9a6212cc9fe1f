use Rattle.std.proofs.Common.{map, take}
use Rattle.boxcar.specs.Table.{Where}
use Rattle.team_run.specs.declared.told.ToldLine.{ToldLine}
use Rattle.team_run.specs.TeamRun.{AreTold, told_text}
use Rattle.team_run.proofs.told.tell_each.Given as goal

-- the lines of the tokens so far were told
abbrev pub invariant-loop-token : goal.invariant-loop-token
invariant-loop-token g l =
    AreTold l.fn.errors (map told_text (map (λ (p : Where ToldLine). p.value) (take l.token-index l.tokens))) l.errors
