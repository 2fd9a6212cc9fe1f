use Rattle.session_queue.proofs.Walk.{shard_full, shard_is, shard_none}
use Rattle.session_queue.proofs.numbered_queues.NumberedQueues.next_in.Goals as goal

pub returns : goal.returns
returns c =
    let q = c.args.self.now in
    let ordered = c.first_in.ensures.ordered in
    record {
      full = shard_full q c.args.shard c.args.shards ordered c.first_in.result c.first_in.ensures.first;
      shard = shard_is q c.args.shard c.args.shards ordered c.first_in.result c.first_in.ensures.first;
      none = shard_none q c.args.shard c.args.shards ordered c.first_in.result c.first_in.ensures.first;
    }
