use Rattle.std.proofs.Common.{take}
use Rattle.net_conf.specs.Members.{trees_of}
use Rattle.net_conf.specs.MovedTrees.{AreMoved}
use Rattle.net_conf.proofs.kept.moved_trees.moved_members.Given as goal

-- those of these so far
abbrev pub invariant-loop-member : goal.invariant-loop-member
invariant-loop-member l = AreMoved l.graph (trees_of (take l.member-index l.members) l.old) l.moved.items
