use Rattle.net_conf.proofs.RouterLaws.{origin_listed}
use Rattle.net_conf.proofs.laws.origins_are_listed.Goals as goal

pub returns : goal.returns
returns c = record { law = origin_listed }
