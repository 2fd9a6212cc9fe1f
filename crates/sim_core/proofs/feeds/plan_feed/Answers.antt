use Rattle.sim_core.proofs.Prepared.{prepared_feed}
use Rattle.sim_core.proofs.feeds.plan_feed.Goals as goal

pub returns-clause-plan : goal.returns-clause-plan
returns-clause-plan g c =
    prepared_feed c.args.state.now c.message_to_feed.new.state c.message_to_feed.ensures.same c.args.feed.now
    c.in_ok-message.message c.requires c.in_ok-message.ensures.message c.in_ok-message.ensures.room
    c.in_ok-message.ensures.admitted c.new.result.items c.new.ensures.items
