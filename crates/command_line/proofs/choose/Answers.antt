use Rattle.std.proofs.Common.{rules, ap, ap₂, sym, subst, ◌∙◌, map, string_bytes}
use Rattle.std.specs.Prelude.{IsSomeAnd}
use Rattle.clap.specs.Words.{app_of, fault_of, is_simple_and_free, subcommand_of, takes}
use Rattle.command_line.specs.CommandLine.{commands, IsChoice}
use Rattle.command_line.proofs.Subcommands.{met, met_one, is_script, is_converge, is_replay, script_is_met, script_is_taken, converge_is_met, converge_is_taken, replay_is_met, replay_is_taken}
use Rattle.command_line.proofs.choose.Goals as goal

pub chosen-requires : goal.chosen-requires
chosen-requires c =
    let is = c.in_ok-command.ensures in
    met_one (app_of c.in_ok-command.command) is (map string_bytes c.args.words.now) c.in_ok-matches.matches
    c.in_ok-matches.ensures.matches
    (c.in_ok-matches.ensures.kinds (ap is_simple_and_free is))

pub returns-clause-faults : goal.returns-clause-faults
returns-clause-faults c =
    let is = c.in_ok-command.ensures in
    ap (λ a. fault_of a (map string_bytes c.args.words.now)) (sym is)
    ∙ c.in_ok-matches.ensures.kinds (ap is_simple_and_free is)

pub returns-clause-script : goal.returns-clause-script
returns-clause-script c = λ name are.
    let is = c.in_ok-command.ensures in
    let found = met (app_of c.in_ok-command.command) is (map string_bytes c.args.words.now) c.in_ok-matches.matches
    c.in_ok-matches.ensures.matches in
    let known = found ∙ ap (subcommand_of commands) are ∙ script_is_met name in
    is_script c.in_ok-choice.choice _ (subst (λ met. IsSomeAnd met (IsChoice c.in_ok-choice.choice)) known
    c.in_ok-choice.ensures.choice)

pub returns-clause-converge : goal.returns-clause-converge
returns-clause-converge c = λ name are.
    let is = c.in_ok-command.ensures in
    let found = met (app_of c.in_ok-command.command) is (map string_bytes c.args.words.now) c.in_ok-matches.matches
    c.in_ok-matches.ensures.matches in
    let known = found ∙ ap (subcommand_of commands) are ∙ converge_is_met name in
    is_converge c.in_ok-choice.choice _ (subst (λ met. IsSomeAnd met (IsChoice c.in_ok-choice.choice)) known
    c.in_ok-choice.ensures.choice)

pub returns-clause-replay : goal.returns-clause-replay
returns-clause-replay c = λ name are.
    let is = c.in_ok-command.ensures in
    let found = met (app_of c.in_ok-command.command) is (map string_bytes c.args.words.now) c.in_ok-matches.matches
    c.in_ok-matches.ensures.matches in
    let known = found ∙ ap (subcommand_of commands) are ∙ replay_is_met name in
    is_replay c.in_ok-choice.choice _ (subst (λ met. IsSomeAnd met (IsChoice c.in_ok-choice.choice)) known
    c.in_ok-choice.ensures.choice)

pub returns-in_err-matches-clause-script : goal.returns-in_err-matches-clause-script
returns-in_err-matches-clause-script c = λ name are.
    let want = c.in_err-matches.ensures.passes (ap₂ takes c.in_ok-command.ensures are ∙ script_is_taken name) in
    search rules

pub returns-in_err-matches-clause-converge : goal.returns-in_err-matches-clause-converge
returns-in_err-matches-clause-converge c = λ name are.
    let want = c.in_err-matches.ensures.passes (ap₂ takes c.in_ok-command.ensures are ∙ converge_is_taken name) in
    search rules

pub returns-in_err-matches-clause-replay : goal.returns-in_err-matches-clause-replay
returns-in_err-matches-clause-replay c = λ name are.
    let want = c.in_err-matches.ensures.passes (ap₂ takes c.in_ok-command.ensures are ∙ replay_is_taken name) in
    search rules
