use Rattle.std.proofs.Common.{sym, ap, ◌∙◌}
use Rattle.reference_machine.specs.Machine.{feed_refusal}
use Rattle.sim_core.proofs.Refusals.{feed_denied, feed_wants}
use Rattle.sim_core.proofs.feeds.prepare_feed.Goals as goal

pub returns-in-Some-clause-prepares : goal.returns-in-Some-clause-prepares
returns-in-Some-clause-prepares g c =
    feed_denied c.args.state.now c.args.feed.now c.in-Some.refusal
    (sym (ap (λ k. feed_refusal k c.args.feed.now) c.conf.ensures) ∙ sym c.feed_refusal.ensures ∙ c.in-Some.is)

pub returns-in-Err-clause-prepares : goal.returns-in-Err-clause-prepares
returns-in-Err-clause-prepares g c =
    feed_wants c.args.state.now c.plan_feed.new.state c.plan_feed.ensures.network c.args.feed.now
    (sym (ap (λ k. feed_refusal k c.args.feed.now) c.conf.ensures) ∙ sym c.feed_refusal.ensures ∙ c.in_default.is)
