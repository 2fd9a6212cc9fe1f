use Rattle.std.proofs.Common.{◌+◌, ◌*◌}
use Rattle.net_conf.proofs.kept.moved_trees.+pieces.Given as goal

abbrev pub decreases-make_in_pieces : goal.decreases-make_in_pieces
decreases-make_in_pieces g l = 2 * l.pieces + 1

abbrev pub decreases-own : goal.decreases-own
decreases-own g l = 2 * l.pieces
