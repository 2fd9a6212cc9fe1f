use Rattle.std.proofs.Common.{◌≤◌}
use Rattle.desk.specs.Desks.{IsWorkedAt}
use Rattle.desk.specs.WorkerThreads.{IsTold}
use Rattle.desk.proofs.workers.Crew.make_turns.Given as goal

-- the turns so far were made for the worker's shard, and are no more than it has; each had one job at most, and the gate
-- was told of the last
abbrev pub invariant-loop : goal.invariant-loop
invariant-loop g l =
    IsWorkedAt l.worker l.self.desk.now.shards l.turns l.initial.seat l.seat × (l.turns ≤ l.self.turns)
    × (l.jobs_before ≤ l.turns) × IsTold (g.G.Gate.was_taken l.self.gate.now l.worker) l.jobs_before
