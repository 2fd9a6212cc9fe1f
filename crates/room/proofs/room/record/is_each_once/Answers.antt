use Rattle.std.proofs.Common.{rules, ◌≡◌}
use Rattle.room.specs.Closing.{times}
use Rattle.room.proofs.Seats.{once_more}
use Rattle.room.proofs.room.record.is_each_once.Goals as goal

pub loop-number-preserved : goal.loop-number-preserved
loop-number-preserved g c =
    let here : times c.loop-number.number c.args.seats.now ≡ 1 = search rules in (
      c.loop-number.invariant.0,
      once_more c.loop-number.number c.args.seats.now c.loop-number.invariant.1 here,
    )
