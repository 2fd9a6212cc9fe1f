use Rattle.std.proofs.Common.{◌≡◌, map, take}
use Rattle.net_conf.specs.MovedTrees.{tree_after}
use Rattle.net_conf.proofs.kept.moved_trees.make_in_turn.Given as goal

-- the trees so far
abbrev pub invariant-loop-tree : goal.invariant-loop-tree
invariant-loop-tree l = l.trees.items ≡ map tree_after (take l.tree-index l.moved)
