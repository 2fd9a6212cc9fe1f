use Rattle.std.proofs.Common.{◌≡◌, ◌≤◌, List, ◌++◌, drop, length, vec_len, vec_capacity}
use Rattle.sim_event.specs.declared.reply.Reply.{Reply}
use Rattle.reference_machine.specs.Network.{Network}
use Rattle.reference_machine.specs.Machine.{IsRun}
use Rattle.plain_simulator.proofs.simulator.Simulator.run.Given as goal

-- any run of what is left completes the run
abbrev pub invariant-loop-event : goal.invariant-loop-event
invariant-loop-event g l = record {
  told : (rest : List Reply) (end : Network) → IsRun l.self (drop l.event-index l.events) rest end →
      IsRun l.fn.self l.events (l.replies.items ++ rest) end;
  room : length l.events ≤ vec_capacity l.replies;
  len : vec_len l.replies ≡ l.event-index;
}
