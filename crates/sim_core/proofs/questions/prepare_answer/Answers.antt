use Rattle.sim_core.proofs.Prepared.{prepared_answer}
use Rattle.sim_core.proofs.Refusals.{question_denied}
use Rattle.sim_core.proofs.questions.prepare_answer.Goals as goal

pub returns-in-Ok : goal.returns-in-Ok
returns-in-Ok g c =
    prepared_answer c.args.state.now c.args.question.now c.in-Ok.report c.in-Ok.ensures.0 c.in-Ok.ensures.1
    c.new.result.items c.new.ensures.items

pub returns-in-Err : goal.returns-in-Err
returns-in-Err g c = question_denied c.args.state.now c.args.question.now c.in-Err.refusal c.in-Err.ensures
