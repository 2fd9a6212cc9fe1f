use Rattle.std.proofs.Common.{◌↔◌, IsTrue, subst}
use Rattle.session_queue.specs.Waiting.{IsQuiet}
use Rattle.reference_machine.specs.Reports.{is_quiet}
use Rattle.cell_engine.specs.State.{network}
use Rattle.cell_engine.proofs.Reports.{quiet_by_queues}
use Rattle.sim_core.proofs.AcceptedQuestions.{same_test}
use Rattle.sim_core.proofs.sim_report.queues.is_quiet.Goals as goal

pub returns : goal.returns
returns g c =
    let e = c.args.state.now in
    same_test c.all_empty.result (is_quiet (network e))
    (subst (λ q. IsTrue c.all_empty.result ↔ IsQuiet q) c.queues.ensures c.all_empty.ensures)
    (quiet_by_queues e c.facts.ensures.sound)
