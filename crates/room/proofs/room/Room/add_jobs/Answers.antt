use Rattle.std.proofs.Common.{arith}
use Rattle.room.proofs.room.Room.add_jobs.Goals as goal

pub returns-clause-most : goal.returns-clause-most
returns-clause-most g c =
    let least = c.loop.invariant.3 in
    let most = c.loop.invariant.5 in
    omega arith
