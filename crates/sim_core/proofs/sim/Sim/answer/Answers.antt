use Rattle.std.proofs.Common.{refl, ap, subst}
use Rattle.sim_event.specs.declared.event.Event.TheVariants.{Ask as AnAsk}
use Rattle.sim_event.specs.declared.reply.Reply.TheVariants.{Report as AReport, Refused}
use Rattle.reference_machine.specs.Machine.{IsStep}
use Rattle.cell_engine.specs.State.{State, network}
use Rattle.sim_core.specs.Counting.{Counted, Counts}
use Rattle.sim_core.proofs.Answered.{answered, denied, counted}
use Rattle.sim_core.proofs.sim.Sim.answer.Goals as goal

pub returns-in-Ok-clause-step : goal.returns-in-Ok-clause-step
returns-in-Ok-clause-step g c =
    subst (λ (s : Counted). IsStep (network s.engine) (AnAsk c.args.question.now) (AReport c.in-Ok.report)
    (network s.engine)) c.self.view_is
    (answered c.self.inside.state c.args.question.now c.in-Ok.report c.in-Ok.ensures.0 c.in-Ok.ensures.1)

pub returns-in-Ok-clause-decided : goal.returns-in-Ok-clause-decided
returns-in-Ok-clause-decided g c =
    subst (λ (s : Counted). Counts (network s.engine) (AnAsk c.args.question.now)
    (AReport c.in-Ok.report) s.decided s.decided) c.self.view_is
    (counted (network c.self.inside.state) c.args.question.now c.in-Ok.report c.self.inside.decided
    c.raised_by_none.ensures)

pub returns-in-Err-clause-step : goal.returns-in-Err-clause-step
returns-in-Err-clause-step g c =
    subst (λ (s : Counted). IsStep (network s.engine) (AnAsk c.args.question.now) (Refused c.in-Err.refusal)
    (network s.engine)) c.self.view_is
    (denied c.self.inside.state c.args.question.now c.in-Err.refusal c.in-Err.ensures)

pub returns-in-Err-clause-decided : goal.returns-in-Err-clause-decided
returns-in-Err-clause-decided g c = refl
