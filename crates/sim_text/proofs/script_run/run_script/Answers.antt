use Rattle.std.proofs.Common.{subst}
use Rattle.reference_machine.specs.Network.{Network}
use Rattle.sim_text.specs.Serving.{IsAnswer}
use Rattle.sim_text.specs.ScriptRun.{IsRunOf}
use Rattle.sim_text.proofs.Shown.{run_shown}
use Rattle.sim_text.proofs.script_run.run_script.Goals as goal

pub returns-clause-run : goal.returns-clause-run
returns-clause-run g c =
    let input = c.args.input.now in
    let end = g.M.Machine.network c.run_lines.new.machine in
    let run = run_shown g.M.Machine.network IsAnswer c.args.machine.now input.remaining c.args.output.now
    c.args.errors.now c.run_lines.result c.run_lines.new.machine c.run_lines.new.input c.run_lines.new.output
    c.run_lines.new.errors c.run_lines.ensures.run in
    subst (λ (start : Network). IsRunOf IsAnswer start input.remaining c.args.output.now c.args.errors.now
    c.run_lines.result end c.run_lines.new.input c.run_lines.new.output c.run_lines.new.errors) c.requires.empty run
