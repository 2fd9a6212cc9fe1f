use Rattle.std.proofs.Common.{sym, subst}
use Rattle.watched.specs.Streams.{Writes}
use Rattle.convergence.specs.declared.ending.Ending.{Ending}
use Rattle.converge_text.specs.Answers.{ending_text}
use Rattle.converge_text.proofs.writing.write_ended.Goals as goal

pub returns-in-Converged : goal.returns-in-Converged
returns-in-Converged g c =
    subst (λ (ending : Ending). Writes c.args.output.now (ending_text ending c.args.tally) c.write_counts.result
    c.write_counts.new.output) (sym c.in-Converged.is) c.write_counts.ensures

pub returns-in-Limit : goal.returns-in-Limit
returns-in-Limit g c =
    subst (λ (ending : Ending). Writes c.args.output.now (ending_text ending c.args.tally)
    c.write_counts-in-Limit.result c.write_counts-in-Limit.new.output) (sym c.in-Limit.is)
    c.write_counts-in-Limit.ensures
