use Rattle.std.proofs.Common.{◌∙◌}
use Rattle.session_queue.proofs.Shown.{queue_shown_empty, spare_shown}
use Rattle.session_queue.proofs.queues.Queues.new.Goals as goal

pub returns-clause-messages : goal.returns-clause-messages
returns-clause-messages c from to = queue_shown_empty c.new-2.result c.new.result from to
    (c.new.ensures.messages from to)

pub returns-clause-spare : goal.returns-clause-spare
returns-clause-spare c from to = spare_shown c.new-2.result c.new.result from to ∙ c.new.ensures.spare from to
