use Rattle.std.proofs.Common.{◌≡◌, ◌∙◌, Some, sym, ap}
use Rattle.net_conf.specs.Edits.{refusal_or_memory}
use Rattle.reference_machine.specs.Machine.{ask_refusal}
use Rattle.cell_engine.specs.State.{network}
use Rattle.sim_core.proofs.AcceptedQuestions.{quiet_is_answered}
use Rattle.sim_core.proofs.sim_report.ask_of_somebody.Goals as goal

pub returns-in-Some : goal.returns-in-Some
unfolding network
returns-in-Some g c =
    let q = c.args.ask.now in
    let is : ask_refusal c.args.state.now.conf q ≡ Some c.in-Some.refusal =
    sym (c.in-Some.ensures ∙ ap (λ k. ask_refusal k q) c.conf.ensures) in
    (ap refusal_or_memory is, quiet_is_answered c.args.state.now.conf q c.in-Some.refusal is)

pub returns-in-Ok : goal.returns-in-Ok
unfolding network
returns-in-Ok g c =
    let q = c.args.ask.now in
    (sym (c.in-None.ensures ∙ ap (λ k. ask_refusal k q) c.conf.ensures), c.in-Ok.ensures.report)

pub returns-in-Err : goal.returns-in-Err
unfolding network
returns-in-Err g c =
    let q = c.args.ask.now in
    (ap refusal_or_memory (sym (c.in-None.ensures ∙ ap (λ k. ask_refusal k q) c.conf.ensures)), c.in-Err.ensures.quiet)
