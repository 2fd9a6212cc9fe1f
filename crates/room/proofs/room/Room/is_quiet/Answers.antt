use Rattle.std.proofs.Common.{◌↔◌, IsTrue, subst, ap, ◌∙◌}
use Rattle.session_queue.specs.Waiting.{IsQuiet}
use Rattle.room.proofs.room.Room.is_quiet.Goals as goal

pub returns : goal.returns
returns g c = subst (λ q. IsTrue c.all_empty.result ↔ IsQuiet q) (c.queues.ensures
    ∙ ap (λ e. e.queues) (c.state.ensures ∙ ap (λ r. r.engine) c.self.view_is)) c.all_empty.ensures
