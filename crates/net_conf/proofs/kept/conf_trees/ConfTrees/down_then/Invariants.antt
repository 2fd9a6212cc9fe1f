use Rattle.std.proofs.Common.{◌≡◌, not, take, filter}
use Rattle.net_conf.specs.Costs.{is_up}
use Rattle.net_conf.proofs.kept.conf_trees.ConfTrees.down_then.Given as goal

-- those that are down then among the sessions so far
abbrev pub invariant-loop-ends : goal.invariant-loop-ends
invariant-loop-ends l = l.then.items ≡ filter (λ e. not (is_up l.after e.low e.high)) (take l.ends-index l.ends-items)
