use Rattle.std.proofs.lemmas.Option.{IfSome_then}
use Rattle.session_queue.proofs.Shown.{skips_none, some_seen}
use Rattle.session_queue.proofs.queues.Queues.next_full.Goals as goal

pub returns-clause-full : goal.returns-clause-full
returns-clause-full c =
    IfSome_then c.next_full.result c.next_full.ensures.full
    (λ found some. some_seen c.self.inside.pool c.self.inside.queues c.self.inside.queues c.args.self.now c.self.view_is
    found.0 found.1 some)

pub returns-clause-none_between : goal.returns-clause-none_between
returns-clause-none_between c =
    skips_none c.self.inside.pool c.self.inside.queues c.self.inside.queues c.args.self.now c.self.view_is c.args.past
    c.next_full.result c.next_full.ensures.none_between
