use Rattle.command_text.proofs.Fronts.{address_first}
use Rattle.command_text.proofs.arguments.next_address.Goals as goal

pub returns-in-Some-clause-found : goal.returns-in-Some-clause-found
returns-in-Some-clause-found c = address_first _ _ _ c.in-Some.ensures.found
