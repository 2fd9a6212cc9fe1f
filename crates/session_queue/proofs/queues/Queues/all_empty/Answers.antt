use Rattle.session_queue.proofs.Shown.{empty_seen, empty_was}
use Rattle.session_queue.proofs.queues.Queues.all_empty.Goals as goal

pub returns : goal.returns
returns c = (
  λ none from to. empty_seen c.self.inside.pool c.self.inside.queues c.self.inside.queues c.args.self.now c.self.view_is
      from to (c.all_empty.ensures.0 none from to),
  λ quiet. c.all_empty.ensures.1
      (λ from to. empty_was c.self.inside.pool c.self.inside.queues c.self.inside.queues c.args.self.now c.self.view_is
      from to (quiet from to)),
)
