use Rattle.std.proofs.Common.{ap, ◌∙◌}
use Rattle.attr_pool.specs.Pooled.{has_attr}
use Rattle.session_queue.specs.Numbers.{shown}
use Rattle.session_queue.specs.Waiting.{queue_at, spare_at}
use Rattle.session_queue.proofs.Shown.{queue_kept, spare_kept, has_attr_itself}
use Rattle.session_queue.proofs.queues.Queues.number_of.Goals as goal

pub returns-in-Ok-clause-ok : goal.returns-in-Ok-clause-ok
returns-in-Ok-clause-ok c =
    ap (λ p. has_attr p c.args.attr) c.in-Ok.ensures.pooled
    ∙ has_attr_itself c.self.inside.pool c.args.attr

pub returns-in-Ok-clause-queue : goal.returns-in-Ok-clause-queue
returns-in-Ok-clause-queue c from to =
    ap (λ p. queue_at (shown p c.self.inside.queues) from to) c.in-Ok.ensures.pooled
    ∙ queue_kept c.self.inside.pool c.args.attr c.self.inside.queues from to c.self.invariant
    ∙ ap (λ q. queue_at q from to) c.self.view_is

pub returns-in-Ok-clause-spare : goal.returns-in-Ok-clause-spare
returns-in-Ok-clause-spare c from to =
    ap (λ p. spare_at (shown p c.self.inside.queues) from to) c.in-Ok.ensures.pooled
    ∙ spare_kept c.self.inside.pool c.args.attr c.self.inside.queues from to
    ∙ ap (λ q. spare_at q from to) c.self.view_is
