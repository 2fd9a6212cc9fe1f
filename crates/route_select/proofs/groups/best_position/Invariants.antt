use Rattle.std.proofs.Common.{length, ◌-◌}
use Rattle.route_select.proofs.GroupLeaders.{LeadersUpTo}
use Rattle.route_select.proofs.groups.best_position.Given as goal

abbrev pub invariant-loop-leader : goal.invariant-loop-leader
invariant-loop-leader l = LeadersUpTo l.med_always l.entries l.at l.best

abbrev pub decreases-loop-leader : goal.decreases-loop-leader
decreases-loop-leader l = length l.entries - l.at
