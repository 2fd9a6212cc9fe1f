use Rattle.plain_simulator.proofs.Sources.{sources_of}
use Rattle.plain_simulator.proofs.reasons.sources_at.Goals as goal

pub returns : goal.returns
returns c =
    sources_of c.args.site.now c.args.prefix c.args.received.now.entries _ _ _ _ c.as_slice.ensures
    c.new-sources.ensures.empty c.in_ok-add_own.ensures
    c.in_ok-add_peers.ensures
