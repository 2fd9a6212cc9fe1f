-- What is printed of a rule that is not added.
use Rattle.std.specs.Prelude.{ℕ, List, codes}
use Rattle.route_policy.specs.declared.policy.AddFault.{AddFault}
use Rattle.route_policy.specs.declared.policy.AddFault.TheVariants.{Limit, Memory}

unfoldable pub fault_text : AddFault → List ℕ
fault_text Limit = codes "the policy has 256 rules"
fault_text Memory = codes "out of memory"
