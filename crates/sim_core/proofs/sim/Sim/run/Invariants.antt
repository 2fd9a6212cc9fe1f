use Rattle.std.proofs.Common.{◌≡◌, ◌≤◌, ℕ, List, ◌++◌, drop, length, vec_len, vec_capacity}
use Rattle.sim_event.specs.declared.reply.Reply.{Reply}
use Rattle.reference_machine.specs.Network.{Network}
use Rattle.cell_engine.specs.State.{network}
use Rattle.sim_core.specs.Counting.{IsCountedRun}
use Rattle.sim_core.proofs.sim.Sim.run.Given as goal

-- any counted run of what is left completes the run
abbrev pub invariant-loop-event : goal.invariant-loop-event
invariant-loop-event g l = record {
  told : (rest : List Reply) (end : Network) (last : ℕ) →
      IsCountedRun (network l.self.engine) l.self.decided (drop l.event-index l.events) rest end last →
      IsCountedRun (network l.fn.self.engine) l.fn.self.decided l.events (l.replies.items ++ rest) end last;
  room : length l.events ≤ vec_capacity l.replies;
  len : vec_len l.replies ≡ l.event-index;
}
