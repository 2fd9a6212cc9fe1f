use Rattle.std.proofs.Common.{rules, ◌≡◌, ◌+◌, drop, length, sym, ap, ◌∙◌, subst, arith}
use Rattle.std.proofs.lemmas.Result.{IfErr-weaker, IfOk-weaker}
use Rattle.room.specs.Books.{blank_seats}
use Rattle.room.specs.Closing.{AllAgree}
use Rattle.team_run.specs.declared.team.Report.{Report}
use Rattle.team_run.specs.Playing.{AreBack, IsOfBooks, IsOfPlay, all_told, engineers_of}
use Rattle.team_run.specs.TeamRun.{AreOfScripts, AreOfWorkers}
use Rattle.team_run.proofs.Endings.{of_play}
use Rattle.team_run.proofs.TeamHistories.{length_blank, team_deliveries, team_history}
use Rattle.team_run.proofs.team.recorded.Goals as goal

pub all_back-requires-clause-enough : goal.all_back-requires-clause-enough
all_back-requires-clause-enough g c = omega (
  arith,
  ap length c.in-Ok.ensures.seats,
  length_blank (c.len-engineers.result + c.args.team.settings.workers),
)

pub returns-in-Ok-all_back-clause-calls : goal.returns-in-Ok-all_back-clause-calls
returns-in-Ok-all_back-clause-calls g c =
    let scripts = c.args.team.scripts.items in
    let came = c.in-Ok-all_back.back.seats.items in
    let told = c.in-Ok-all_back.back.told.items in
    IfOk-weaker c.closed.result (λ (report : Report). AllAgree report.kept came × (report.told.items ≡ told))
    (λ (report : Report). AreOfScripts 0 scripts report.kept (all_told report.told.items))
    (λ (report : Report) so. subst (λ lists. AreOfScripts 0 scripts report.kept (all_told lists)) (sym so.1)
    (team_history (c.len-engineers.result + c.args.team.settings.workers)
    c.in-Ok.desk.shards c.args.team.settings.turns scripts c.in-Ok.seats.items
    (drop (length scripts) c.in-Ok.seats.items) came told report.kept c.in-Ok.ensures.seats
    (omega arith) c.in-Ok-all_back.ensures.back so.0))
    c.closed.ensures.kept

pub returns-in-Ok-all_back-clause-deliveries : goal.returns-in-Ok-all_back-clause-deliveries
returns-in-Ok-all_back-clause-deliveries g c =
    let scripts = c.args.team.scripts.items in
    let workers = c.args.team.settings.workers in
    let turns = c.args.team.settings.turns in
    let came = c.in-Ok-all_back.back.seats.items in
    let told = c.in-Ok-all_back.back.told.items in
    let engineers : c.len-engineers.result ≡ length scripts = search rules in
    let seats = c.in-Ok.ensures.seats ∙ ap (λ n. blank_seats (n + workers)) engineers in
    let back = subst (λ shards. AreBack shards turns (engineers_of 1 scripts c.in-Ok.seats.items)
    (drop (length scripts) c.in-Ok.seats.items) came told) c.in-Ok.ensures.shards c.in-Ok-all_back.ensures.back in
    IfOk-weaker c.closed.result (λ (report : Report). AllAgree report.kept came × (report.told.items ≡ told))
    (λ (report : Report). AreOfWorkers (length scripts) workers turns report.kept)
    (λ (report : Report) so. team_deliveries scripts workers turns c.in-Ok.seats.items came told report.kept seats back so.0)
    c.closed.ensures.kept

pub returns-in-Ok-all_back-clause-fault : goal.returns-in-Ok-all_back-clause-fault
returns-in-Ok-all_back-clause-fault g c =
    let came = c.in-Ok-all_back.back.seats.items in
    IfErr-weaker c.closed.result (IsOfBooks came) IsOfPlay (of_play came) c.closed.ensures.fault
