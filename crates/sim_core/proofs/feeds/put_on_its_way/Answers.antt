use Rattle.sim_core.proofs.Accepted.{feed_session}
use Rattle.sim_core.proofs.feeds.put_on_its_way.Goals as goal

pub feed-requires : goal.feed-requires
feed-requires g c = feed_session c.args.state.now.conf c.args.feed.now c.requires
