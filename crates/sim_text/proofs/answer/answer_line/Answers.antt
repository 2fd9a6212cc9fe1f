use Rattle.sim_text.proofs.ReadingLemmas.{answered}
use Rattle.sim_text.proofs.answer.answer_line.Goals as goal

pub returns : goal.returns
returns g c =
    let said = c.answer.ensures in (
      said.0,
      answered (g.M.Machine.network c.args.machine.now) c.args.line.now said.0
          (g.M.Machine.network c.answer.new.machine) c.read_line-reading.result c.read_line-reading.ensures said.1,
      said.2,
    )
