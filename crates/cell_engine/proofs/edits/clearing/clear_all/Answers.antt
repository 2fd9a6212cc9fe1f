use Rattle.std.proofs.Common.{◌≡◌, [], List, get_or, ◌∙◌, if◌then◌else◌, ap}
use Rattle.std.specs.List.{list_any}
use Rattle.net_conf.specs.declared.tables.Ends.{Ends}
use Rattle.session_queue.specs.Waiting.{queue_at}
use Rattle.cell_engine.specs.Edits.{is_of}
use Rattle.cell_engine.proofs.Cleared.{one_list_cleared}
use Rattle.cell_engine.proofs.edits.clearing.clear_all.Goals as goal

pub loop-list-preserved : goal.loop-list-preserved
loop-list-preserved c =
    let i = c.loop-list.list-index in
    let d : List Ends = c.list-item.result in
    let here : List Ends = get_or c.args.lists.now i d in
    let these : c.as_slice.result.now ≡ here = c.as_slice.ensures ∙ c.list-item.is in
    record {
      queue = λ f t.
          c.clear_each.ensures.queue f t
          ∙ ap (λ es. if list_any (is_of f t) es then [] else queue_at c.loop-list.queues f t) these
          ∙ ap (λ q. if list_any (is_of f t) here then [] else q) (c.loop-list.invariant.queue f t)
          ∙ one_list_cleared f t c.args.lists.now i d c.loop-list-test.true c.args.queues.now;
      spare = λ f t. c.clear_each.ensures.spare f t ∙ c.loop-list.invariant.spare f t;
      admitted = c.clear_each.ensures.admitted ∙ c.loop-list.invariant.admitted;
    }
