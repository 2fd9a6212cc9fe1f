use Rattle.cell_engine.proofs.Cleared.{both_cleared, both_kept}
use Rattle.cell_engine.proofs.edits.clearing.clear_both.Goals as goal

pub returns-clause-queue : goal.returns-clause-queue
returns-clause-queue c =
    both_cleared c.args.session c.args.queues.now c.clear.new.self c.clear-2.new.self c.clear.ensures.others
    c.clear-2.ensures.others c.clear.ensures.queue c.clear-2.ensures.queue

pub returns-clause-spare : goal.returns-clause-spare
returns-clause-spare c =
    both_kept c.args.session c.args.queues.now c.clear.new.self c.clear-2.new.self c.clear.ensures.others
    c.clear-2.ensures.others c.clear.ensures.spare c.clear-2.ensures.spare
