use Rattle.std.proofs.Common.{sym, rules}
use Rattle.igp_cost.proofs.InPlace.{whole_rows}
use Rattle.igp_cost.proofs.least_trees.tree.reached_rows.Goals as goal

pub returns-then-are_known : goal.returns-then-are_known
returns-then-are_known c = sym (whole_rows c.args.nodes.now c.args.rows.items c.requires (search rules))
