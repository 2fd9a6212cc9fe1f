use Rattle.std.proofs.Common.{◌≡◌, rules, subst}
use Rattle.team_run.specs.Playing.{HasUnlike}
use Rattle.team_run.proofs.SeatBooks.{of_fault, of_unlike}
use Rattle.team_run.proofs.team.closed.Goals as goal

pub returns-then-not-all_agree-clause-fault : goal.returns-then-not-all_agree-clause-fault
returns-then-not-all_agree-clause-fault g c =
    let seats = c.args.back.seats.items in
    let same : c.as_slice.result.now ≡ seats = search rules in
    of_unlike seats (subst HasUnlike same (c.all_agree.ensures c.if-not-all_agree.true))

pub returns-in-Err-clause-fault : goal.returns-in-Err-clause-fault
returns-in-Err-clause-fault g c =
    of_fault c.end.result.seats c.end.result.history c.args.back.seats.items c.in-Err.fault.fault c.in-Err.ensures.fault
