use Rattle.net_conf.proofs.tables.originations.Originations.new.Goals as goal

pub invariant_of-result : goal.invariant_of-result
unfolding Rattle.std.specs.List.Sorted.IsStrictlySortedBy
invariant_of-result c = rw c.new.ensures tt
