use Rattle.std.proofs.Common.{◌≡◌, [], fold}
use Rattle.net_conf.specs.MovedTrees.{with_tree, with_source}
use Rattle.net_conf.proofs.kept.carried.with_trees.Given as goal

-- the trees so far are put in, and their sources are told
abbrev pub invariant-loop-tree : goal.invariant-loop-tree
invariant-loop-tree l = (l.trees ≡ fold with_tree l.old l.yielded) × (l.moved.keys ≡ fold with_source [] l.yielded)
