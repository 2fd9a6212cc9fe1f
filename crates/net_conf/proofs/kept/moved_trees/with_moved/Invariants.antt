use Rattle.std.proofs.Common.{◌++◌, List, take}
use Rattle.net_prefix.specs.declared.addr.Addr.{Addr}
use Rattle.igp_cost.specs.Trees.{Reached}
use Rattle.net_conf.specs.MovedTrees.{AreMoved}
use Rattle.net_conf.proofs.kept.moved_trees.with_moved.Given as goal

-- with those of the trees so far
abbrev pub invariant-loop-entry : goal.invariant-loop-entry
invariant-loop-entry l = (before : List (Addr × Reached)) → AreMoved l.graph before l.fn.moved.items →
    AreMoved l.graph (before ++ take l.entry-index l.old) l.with.items
