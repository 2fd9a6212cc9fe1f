use Rattle.std.proofs.Common.{◌≡◌, sym, ap, subst, ◌∙◌}
use Rattle.net_conf.specs.declared.refusal.Refusal.TheVariants.{Memory}
use Rattle.sim_event.specs.declared.event.Event.TheVariants.{Deliver}
use Rattle.sim_event.specs.declared.reply.Reply.TheVariants.{Took, Refused}
use Rattle.reference_machine.specs.Machine.{IsStep}
use Rattle.cell_engine.specs.State.{network}
use Rattle.sim_core.specs.Counting.{Counted, Counts}
use Rattle.sim_core.proofs.Answered.{denied_by}
use Rattle.sim_core.proofs.Delivering.{counts, one_decided, takes, up_here, wants}
use Rattle.sim_core.proofs.sim.Sim.deliver_head.Goals as goal

pub returns-in-Err-clause-step : goal.returns-in-Err-clause-step
returns-in-Err-clause-step g c =
    let d = c.args.direction in
    subst (λ (s : Counted). IsStep (network s.engine) (Deliver d.from d.to) (Refused c.in-Err.refusal)
    (network s.engine)) c.self.view_is
    (denied_by c.self.inside.state (Deliver d.from d.to) c.in-Err.refusal c.in-Err.ensures.refused)

pub deliver-requires-clause-up : goal.deliver-requires-clause-up
deliver-requires-clause-up g c =
    up_here c.self.inside.state c.facts.ensures.sound c.args.direction c.in-Ok.ensures.allowed c.in-Ok.message
    c.in-Ok.ensures.head

pub returns-in-Ok-deliver-clause-step : goal.returns-in-Ok-deliver-clause-step
returns-in-Ok-deliver-clause-step g c =
    let d = c.args.direction in
    subst (λ (s : Counted). IsStep (network s.engine) (Deliver d.from d.to) (Took c.prefix.result c.kind.result)
    (network c.deliver.new.self)) c.self.view_is
    (subst (λ r. IsStep (network c.self.inside.state) (Deliver d.from d.to) r (network c.deliver.new.self))
    (λ i. Took (sym c.prefix.ensures i) (sym c.kind.ensures i))
    (takes c.self.inside.state c.facts.ensures.sound d c.in-Ok.ensures.allowed c.in-Ok.message c.in-Ok.ensures.head
    (network c.deliver.new.self) c.in-Ok-deliver.ensures.next))

pub returns-in-Ok-deliver-clause-decided : goal.returns-in-Ok-deliver-clause-decided
returns-in-Ok-deliver-clause-decided g c =
    let e = c.self.inside.state in
    let d = c.args.direction in
    let n = c.self.inside.decided in
    subst (λ (s : Counted). Counts (network s.engine) (Deliver d.from d.to)
    (Took c.prefix.result c.kind.result) s.decided c.raised-self-inside.result) c.self.view_is
    (subst (λ m. Counts (network e) (Deliver d.from d.to) (Took c.prefix.result c.kind.result) n m)
    (sym c.raised-self-inside.ensures)
    (counts e c.facts.ensures.sound d c.in-Ok.ensures.allowed c.in-Ok.message c.in-Ok.ensures.head n c.decisions.result
    (λ p. c.decisions.ensures ∙ one_decided e.conf d.to p c.in-Ok-deliver.decides c.in-Ok-deliver.ensures.decides)))

pub returns-in-Err-deliver-clause-step : goal.returns-in-Err-deliver-clause-step
returns-in-Err-deliver-clause-step g c =
    let d = c.args.direction in
    subst (λ (s : Counted). IsStep (network s.engine) (Deliver d.from d.to) (Refused Memory)
    (network c.deliver.new.self)) c.self.view_is
    (wants c.self.inside.state c.facts.ensures.sound d c.in-Ok.ensures.allowed c.in-Ok.message c.in-Ok.ensures.head
    c.deliver.new.self c.in-Err-deliver.ensures.same)
