use Rattle.std.proofs.Common.{take}
use Rattle.shared_map.specs.EntryChunks.{entries_in}
use Rattle.net_conf.specs.MovedTrees.{AreMoved}
use Rattle.net_conf.proofs.kept.moved_trees.find_moved.Given as goal

-- those of the chunks so far
abbrev pub invariant-loop-chunk : goal.invariant-loop-chunk
invariant-loop-chunk l = AreMoved l.graph (entries_in (take l.chunk-index l.old)) l.moved.items
