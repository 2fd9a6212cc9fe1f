use Rattle.std.proofs.Common.{◌-◌, length}
use Rattle.igp_cost.proofs.repair.mended.first_from.Given as goal

abbrev pub decreases-loop-row : goal.decreases-loop-row
decreases-loop-row l = length l.rows - l.row
