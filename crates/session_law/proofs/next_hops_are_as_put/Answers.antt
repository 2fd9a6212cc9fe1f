use Rattle.session_law.proofs.NextHops.{next_hop_law, own_next_hop_law, no_loop_law}
use Rattle.session_law.proofs.next_hops_are_as_put.Goals as goal

pub returns-clause-law : goal.returns-clause-law
returns-clause-law c = next_hop_law

pub returns-clause-own : goal.returns-clause-own
returns-clause-own c = own_next_hop_law

pub returns-clause-chosen : goal.returns-clause-chosen
returns-clause-chosen c = no_loop_law
