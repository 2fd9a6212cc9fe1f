use Rattle.session_law.proofs.Chosen.{each_has_its_source, one_is_chosen}
use Rattle.session_law.proofs.one_route_is_chosen.Goals as goal

pub returns-clause-sources : goal.returns-clause-sources
returns-clause-sources c = each_has_its_source

pub returns-clause-one : goal.returns-clause-one
returns-clause-one c = one_is_chosen
