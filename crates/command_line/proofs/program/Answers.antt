use Rattle.std.proofs.Common.{rules, ap, ap₂, ◌∙◌, ◌≡◌, codes}
use Rattle.std.proofs.lemmas.Result.{IfOk-weaker}
use Rattle.clap.specs.Words.{App, app_of, new_app, shape_of, with_subcommand}
use Rattle.command_line.specs.CommandLine.{bgpsim}
use Rattle.command_line.proofs.program.Goals as goal

pub returns : goal.returns
returns c =
    let top : app_of c.subcommand_required.result ≡ bgpsim = search rules in
    let script : shape_of c.about-script.result ≡ (new_app (codes "script")).top = search rules in
    let converge : shape_of c.about-converge.result ≡ (new_app (codes "converge")).top = search rules in
    let replay : shape_of c.about-replay.result ≡ (new_app (codes "replay")).top = search rules in
    let one = c.in_ok-subcommand.ensures.shape (search rules) ∙ ap₂ with_subcommand top script in
    let two = c.in_ok-subcommand-2.ensures.shape (search rules) ∙ ap₂ with_subcommand one converge in
    let three = c.in_ok-subcommand-3.ensures.shape (search rules) ∙ ap₂ with_subcommand two replay in
    IfOk-weaker c.subcommand-4.result _ _ (λ r adds. adds.shape (search rules)
    ∙ ap₂ with_subcommand three (ap (λ (a : App). a.top) c.in_ok-team.ensures.app)) c.subcommand-4.ensures
