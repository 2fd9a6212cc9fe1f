use Rattle.reference_machine.proofs.Matches.{longest_match_law}
use Rattle.reference_machine.proofs.laws.longest_match_is_longest.Goals as goal

pub returns : goal.returns
returns c = record { law = longest_match_law }
