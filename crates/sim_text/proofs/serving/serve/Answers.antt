use Rattle.sim_text.specs.Serving.{IsAnswer}
use Rattle.sim_text.proofs.Shown.{known_shown}
use Rattle.sim_text.proofs.serving.serve.Goals as goal

pub returns-clause-served : goal.returns-clause-served
returns-clause-served g c =
    known_shown g.M.Machine.network IsAnswer (g.I.Typist.reading c.args.input.now).remaining c.args.machine.now
    c.args.output.now c.serve_lines.result c.serve_lines.new.machine c.serve_lines.new.output
    (g.I.Typist.reading c.serve_lines.new.input) c.serve_lines.ensures.served
