use Rattle.std.proofs.Common.{sym, ◌∙◌}
use Rattle.session_queue.proofs.Shown.{length_was}
use Rattle.session_queue.proofs.queues.Queues.len.Goals as goal

pub returns : goal.returns
returns c = c.len.ensures
    ∙ sym (length_was c.self.inside.pool c.self.inside.queues c.self.inside.queues c.args.self.now c.self.view_is
    c.args.from c.args.to)
