use Rattle.std.proofs.Common.{not, ◌&&◌, Some, ◌∙◌, subst}
use Rattle.net_conf.specs.Costs.{is_up}
use Rattle.session_queue.specs.Waiting.{queue_at, same_direction, SkipsNone}
use Rattle.cell_engine.proofs.Cleared.{found_end, found_step, found_up, empty_still}
use Rattle.cell_engine.proofs.edits.clearing.clear_found.Goals as goal

pub returns-in_default-clause-down : goal.returns-in_default-clause-down
returns-in_default-clause-down c done f t down =
    found_end c.args.conf.now c.walk.queues c.walk.past c.walk.invariant.behind
    (subst (SkipsNone c.walk.queues c.walk.past) c.in_default.is c.next_full.ensures.none_between) f t down

pub walk-preserved : goal.walk-preserved
walk-preserved c =
    let conf = c.args.conf.now in
    let from = c.in-Some.from in
    let to = c.in-Some.to in
    let now = c.clear_unless_up.new.queues in
    let skips : SkipsNone c.walk.queues c.walk.past (Some (from, to)) =
    subst (SkipsNone c.walk.queues c.walk.past) c.in-Some.is c.next_full.ensures.none_between in
    let step = c.clear_unless_up.ensures.queue in
    record {
      up = λ f t up. found_up conf c.walk.queues c.walk.past c.walk.invariant.behind from to now skips step f t up
          ∙ c.walk.invariant.up f t up;
      behind = found_step conf c.walk.queues c.walk.past c.walk.invariant.behind from to now skips step;
      empty = λ f t none. step f t
          ∙ empty_still (not (is_up conf from to) && same_direction from to f t) (queue_at c.walk.queues f t)
          (c.walk.invariant.empty f t none);
      spare = λ f t. c.clear_unless_up.ensures.spare f t ∙ c.walk.invariant.spare f t;
      admitted = c.clear_unless_up.ensures.admitted ∙ c.walk.invariant.admitted;
    }
