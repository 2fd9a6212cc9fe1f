use Rattle.std.proofs.Common.{subst}
use Rattle.attr_pool.specs.Pooled.{HaveOneNumber}
use Rattle.attr_pool.proofs.Numbers.{one_number}
use Rattle.attr_pool.proofs.pool.Pool.facts.Goals as goal

pub returns : goal.returns
returns c = subst HaveOneNumber c.self.view_is (one_number c.self.inside.attrs.keys c.self.invariant.0)
