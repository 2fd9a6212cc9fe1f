use Rattle.reference_machine.proofs.Onward.{onward_law}
use Rattle.reference_machine.proofs.laws.chosen_routes_lead_onward.Goals as goal

pub returns : goal.returns
returns c = record { law = onward_law }
