use Rattle.std.proofs.Common.{rules, ◌≡◌, List, map, subst}
use Rattle.team_run.specs.declared.told.ToldLine.{ToldLine}
use Rattle.team_run.specs.Playing.{all_told}
use Rattle.team_run.specs.TeamRun.{AreTold, told_text}
use Rattle.team_run.proofs.Endings.{cut_off}
use Rattle.team_run.proofs.team.play.Goals as goal

pub returns : goal.returns
returns g c =
    let team = c.args.team in
    let before = c.recorded.new.errors in
    let now = c.tell_all.new.errors in
    let lists = c.in-Ok-recorded.report.told.items in
    let same : c.as_slice.result.now ≡ lists = search rules in
    let texts : AreTold before (map told_text (all_told lists)) now =
    subst (λ (l : List (List ToldLine)). AreTold before (map told_text (all_told l)) now) same c.tell_all.ensures in
    cut_off team.scripts.items team.settings.workers team.settings.turns team.settings.is_terminal c.args.output.now
    c.args.errors.now before now c.in-Ok-recorded.report.kept (all_told lists) c.in-Err-write_record.fault
    c.end_by-in-Err-write_record.result c.write_record.new.output c.end_by-in-Err-write_record.new.errors
    record {
      legal = c.write_record.ensures.legal;
      called = c.in-Ok-recorded.ensures.calls;
      delivered = c.in-Ok-recorded.ensures.deliveries;
    }
    c.in-Err-write_record.ensures.cut_off c.recorded.ensures.nothing_told texts
    c.end_by-in-Err-write_record.ensures.told c.end_by-in-Err-write_record.ensures.status
