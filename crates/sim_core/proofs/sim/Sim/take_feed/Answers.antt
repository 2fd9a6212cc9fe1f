use Rattle.std.proofs.Common.{sym, ap, subst, ◌∙◌}
use Rattle.net_conf.specs.declared.refusal.Refusal.TheVariants.{Memory}
use Rattle.sim_event.specs.declared.event.Event.TheVariants.{Feed as AFeed}
use Rattle.sim_event.specs.declared.reply.Reply.TheVariants.{Done, Refused}
use Rattle.reference_machine.specs.Machine.{feed_refusal, IsStep}
use Rattle.cell_engine.specs.State.{network}
use Rattle.sim_core.specs.Counting.{Counted, Counts}
use Rattle.sim_core.proofs.Answered.{denied_by}
use Rattle.sim_core.proofs.Refusals.{feed_denied}
use Rattle.sim_core.proofs.Feeding.{counts, feeds, wants}
use Rattle.sim_core.proofs.sim.Sim.take_feed.Goals as goal

pub returns-in-Some-clause-step : goal.returns-in-Some-clause-step
returns-in-Some-clause-step g c =
    let e = c.self.inside.state in
    let f = c.args.feed.now in
    subst (λ (s : Counted). IsStep (network s.engine) (AFeed f) (Refused c.in-Some.refusal) (network s.engine))
    c.self.view_is
    (denied_by e (AFeed f) c.in-Some.refusal
    (feed_denied e f c.in-Some.refusal (sym (ap (λ k. feed_refusal k f) c.conf.ensures)
    ∙ sym c.feed_refusal.ensures ∙ c.in-Some.is)))

pub returns-in-Ok-clause-step : goal.returns-in-Ok-clause-step
returns-in-Ok-clause-step g c =
    let f = c.args.feed.now in
    let none = sym (ap (λ k. feed_refusal k f) c.conf.ensures) ∙ sym c.feed_refusal.ensures ∙ c.in_default.is in
    subst (λ (s : Counted). IsStep (network s.engine) (AFeed f) Done (network c.put_on_its_way.new.state))
    c.self.view_is
    (feeds c.self.inside.state f none (network c.put_on_its_way.new.state) c.in-Ok.ensures.next)

pub returns-in-Ok-clause-decided : goal.returns-in-Ok-clause-decided
returns-in-Ok-clause-decided g c =
    let f = c.args.feed.now in
    subst (λ (s : Counted). Counts (network s.engine) (AFeed f) Done s.decided c.self.inside.decided) c.self.view_is
    (counts (network c.self.inside.state) f c.self.inside.decided c.raised_by_none.ensures)

pub returns-in-Err-clause-step : goal.returns-in-Err-clause-step
returns-in-Err-clause-step g c =
    let f = c.args.feed.now in
    let none = sym (ap (λ k. feed_refusal k f) c.conf.ensures) ∙ sym c.feed_refusal.ensures ∙ c.in_default.is in
    subst (λ (s : Counted). IsStep (network s.engine) (AFeed f) (Refused Memory) (network c.put_on_its_way.new.state))
    c.self.view_is
    (wants c.self.inside.state f none c.put_on_its_way.new.state c.in-Err.ensures.same)
