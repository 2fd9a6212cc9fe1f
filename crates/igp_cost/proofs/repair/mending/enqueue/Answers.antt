use Rattle.std.proofs.Common.{ℕ, ◌<◌, length}
use Rattle.std.specs.BinaryHeap.{heap_items}
use Rattle.std.specs.declared.cmp.Reverse.{Reverse}
use Rattle.std.proofs.lemmas.List.Elements.{All-cons}
use Rattle.std.proofs.lemmas.List.Sorted.{All-permutation}
use Rattle.net_prefix.specs.declared.addr.Addr.{Addr}
use Rattle.igp_cost.proofs.repair.mending.enqueue.Goals as goal

pub returns-in_ok-push : goal.returns-in_ok-push
returns-in_ok-push c =
    let P : Reverse (ℕ × Addr × ℕ) → Type 0 = λ e. e.0.2 < length c.args.labels.now in
    record {
      queued = All-permutation P _ (heap_items c.push.new.self) c.in_ok-push.ensures.permutation
          (All-cons P _ (heap_items c.args.queue.now) c.requires.at c.requires.queued);
    }
