use Rattle.std.proofs.Common.{drop}
use Rattle.std.specs.Prelude.{◌↔◌}
use Rattle.room.specs.Closing.{AllAgree}
use Rattle.room.proofs.room.record.all_agree.Given as goal

abbrev pub invariant-loop-seat : goal.invariant-loop-seat
invariant-loop-seat g l = AllAgree l.history.entries l.seats ↔ AllAgree l.history.entries (drop l.seat-index l.seats)
