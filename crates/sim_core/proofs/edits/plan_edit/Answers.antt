use Rattle.sim_core.proofs.Prepared.{prepared_edit}
use Rattle.sim_core.proofs.edits.plan_edit.Goals as goal

pub returns-clause-plan : goal.returns-clause-plan
returns-clause-plan g c =
    prepared_edit c.edited.new.self c.make_ready.new.state c.make_ready.ensures.same c.make_ready.ensures.tables
    c.facts.ensures.sound c.facts.ensures.configured c.facts.ensures.sessions c.args.edit.now c.in_ok-edited.edited
    c.in_ok-edited.ensures.planned c.in-Ok.ensures.places c.in-Ok.refreshed.items c.in-Ok.ensures.refreshed
