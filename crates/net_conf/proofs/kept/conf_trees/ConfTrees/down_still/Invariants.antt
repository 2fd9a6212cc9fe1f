use Rattle.std.proofs.Common.{◌≡◌, not, take, filter}
use Rattle.net_conf.specs.Costs.{is_up}
use Rattle.net_conf.proofs.kept.conf_trees.ConfTrees.down_still.Given as goal

-- those that stay down among the sessions so far
abbrev pub invariant-loop-ends : goal.invariant-loop-ends
invariant-loop-ends l = l.still.items ≡ filter (λ e. not (is_up l.after e.low e.high)) (take l.ends-index l.down)
