use Rattle.std.proofs.Common.{IfOk, sym, subst}
use Rattle.command_line.specs.declared.Choice.{Choice}
use Rattle.command_line.specs.CommandLine.{IsWithin}
use Rattle.bgpsim.specs.Running.{IsRunOf}
use Rattle.bgpsim.proofs.running.run_choice.Goals as goal

pub play_team-requires-clause-team : goal.play_team-requires-clause-team
play_team-requires-clause-team g c _ _ = subst (λ (choice : Choice). IsWithin choice) c.in-ForTeam.is c.requires.within

pub returns-in-Script-clause-run : goal.returns-in-Script-clause-run
returns-in-Script-clause-run g c =
    let old = c.args.streams.now in
    let new = c.serve_script.new.streams in
    subst (λ (choice : Choice). IfOk c.serve_script.result (λ status. IsRunOf choice old.is_terminal old.input
    old.output old.errors status new.input new.output new.errors)) (sym c.in-Script.is) c.serve_script.ensures.run

pub returns-in-Converge-clause-run : goal.returns-in-Converge-clause-run
returns-in-Converge-clause-run g c =
    let old = c.args.streams.now in
    let new = c.serve_converge.new.streams in
    subst (λ (choice : Choice). IfOk c.serve_converge.result (λ status. IsRunOf choice old.is_terminal old.input
    old.output old.errors status new.input new.output new.errors)) (sym c.in-Converge.is) c.serve_converge.ensures.run

pub returns-in-Replay-clause-run : goal.returns-in-Replay-clause-run
returns-in-Replay-clause-run g c =
    let old = c.args.streams.now in
    let new = c.replay_log.new.streams in
    subst (λ (choice : Choice). IfOk c.replay_log.result (λ status. IsRunOf choice old.is_terminal old.input
    old.output old.errors status new.input new.output new.errors)) (sym c.in-Replay.is) c.replay_log.ensures.run

pub returns-in-ForTeam-clause-run : goal.returns-in-ForTeam-clause-run
returns-in-ForTeam-clause-run g c =
    let old = c.args.streams.now in
    let new = c.play_team.new.streams in
    subst (λ (choice : Choice). IfOk c.play_team.result (λ status. IsRunOf choice old.is_terminal old.input
    old.output old.errors status new.input new.output new.errors)) (sym c.in-ForTeam.is) c.play_team.ensures.run
