use Rattle.std.proofs.Common.{◌≡◌, ◌+◌, length, take}
use Rattle.net_prefix.specs.declared.addr.Addr.{Addr}
use Rattle.cell_engine.specs.Sending.{told_from}
use Rattle.cell_engine.specs.Counts.{count_at}
use Rattle.cell_engine.proofs.edits.places.count_sends.Given as goal

-- those so far are counted
abbrev pub invariant-loop-send : goal.invariant-loop-send
invariant-loop-send l = (f t : Addr) → count_at l.counts.entries f t ≡ count_at l.fn.counts.entries f t
    + length (told_from l.router (take l.send-index l.sends) f t)
