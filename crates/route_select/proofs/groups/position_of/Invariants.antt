use Rattle.std.proofs.Common.{◌≡◌, drop}
use Rattle.std.specs.FinMap.{find}
use Rattle.route_select.specs.Selection.{source_cmp}
use Rattle.route_select.proofs.groups.position_of.Given as goal

-- what is left of the entries decides
abbrev pub invariant-loop-i : goal.invariant-loop-i
invariant-loop-i l = find source_cmp l.source l.entries ≡ find source_cmp l.source (drop l.i l.entries)
