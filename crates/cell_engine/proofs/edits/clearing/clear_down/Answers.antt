use Rattle.std.proofs.Common.{[], ◌∙◌, if◌then◌else◌, ap}
use Rattle.std.specs.List.{list_any}
use Rattle.session_queue.specs.Waiting.{queue_at}
use Rattle.shared_map.specs.Chunks.{keys_in}
use Rattle.cell_engine.specs.Edits.{is_of}
use Rattle.cell_engine.proofs.Cleared.{up_is_none, down_is_one, empty_still}
use Rattle.cell_engine.proofs.edits.clearing.clear_down.Goals as goal

pub returns-then-clear_found-clause-down : goal.returns-then-clear_found-clause-down
returns-then-clear_found-clause-down c f t there down = c.clear_found.ensures.down c.if-clear_found.true f t down

pub returns-clause-up : goal.returns-clause-up
returns-clause-up c f t up =
    c.clear_all.ensures.queue f t
    ∙ ap (λ b. if b then [] else queue_at c.clear_found.new.queues f t)
    (ap (list_any (is_of f t)) c.down_sessions-down.ensures ∙ up_is_none c.args.conf.now f t up)
    ∙ c.clear_found.ensures.up f t up

pub returns-clause-down : goal.returns-clause-down
returns-clause-down c f t there down = c.clear_all.ensures.queue f t
    ∙ ap (λ b. if b then [] else queue_at c.clear_found.new.queues f t)
    (ap (list_any (is_of f t)) c.down_sessions-down.ensures ∙ down_is_one c.args.conf.now f t there down)

pub returns-clause-empty : goal.returns-clause-empty
returns-clause-empty c f t none = c.clear_all.ensures.queue f t
    ∙ empty_still (list_any (is_of f t) (keys_in c.down_sessions-down.result.now))
    (queue_at c.clear_found.new.queues f t) (c.clear_found.ensures.empty f t none)

pub returns-clause-spare : goal.returns-clause-spare
returns-clause-spare c f t = c.clear_all.ensures.spare f t ∙ c.clear_found.ensures.spare f t
