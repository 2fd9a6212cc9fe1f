use Rattle.std.proofs.Common.{◌≡◌, ap, sym, ◌∙◌}
use Rattle.sim_event.specs.declared.reply.Report.TheVariants.{Quiet as IsQuiet}
use Rattle.reference_machine.specs.Machine.{ask_refusal, report_of}
use Rattle.cell_engine.specs.State.{network}
use Rattle.sim_core.proofs.sim_report.ask.Goals as goal

pub returns-in-Quiet : goal.returns-in-Quiet
unfolding ask_refusal
returns-in-Quiet g c =
    let s = network c.args.state.now in
    (ap (ask_refusal s.conf) c.in-Quiet.is, ap IsQuiet c.is_quiet.ensures ∙ sym (ap (report_of s) c.in-Quiet.is))
