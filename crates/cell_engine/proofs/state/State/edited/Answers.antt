use Rattle.cell_engine.proofs.Growth.{network_kept}
use Rattle.cell_engine.proofs.state.State.edited.Goals as goal

pub returns-in_err-make_origin-clause-network : goal.returns-in_err-make_origin-clause-network
returns-in_err-make_origin-clause-network g c =
    network_kept c.args.self.now c.make_origin.new.self c.make_origin.ensures.same

pub returns-clause-network : goal.returns-clause-network
returns-clause-network g c = network_kept c.args.self.now c.make_origin.new.self c.make_origin.ensures.same
