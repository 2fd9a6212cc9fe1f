use Rattle.shared_map.specs.EntryChunks.{entries_in}
use Rattle.net_conf.proofs.Spread.{moved_spread}
use Rattle.net_conf.proofs.kept.moved_trees.moved_trees.Goals.{then-is_worth_threads, else-is_worth_threads}
use Rattle.net_conf.proofs.kept.moved_trees.moved_trees.Goals as goal

pub returns : goal.returns
returns c =
    elim c.if-is_worth_threads.branch [
      | then-is_worth_threads w ↦
          rw w.moved-is (moved_spread c.args.graph.now (entries_in c.args.old.now) c.in_ok-moved.moved.items
          w.spread.new.moved.items w.spread.ensures c.in_ok-moved.ensures)
      | else-is_worth_threads w ↦ rw w.moved-is c.in_ok-moved.ensures
    ]
