-- What the command line may say (own).
use Rattle.std.specs.Prelude.{◌≡◌, ◌≤◌, ◌⊎◌, ◌∷◌, [], ℕ, List, Option, Some, codes, length, map, option_map, true, Result, MatchResult, IsSomeAnd, ⊤}
use Rattle.std.specs.Str.Parse.{digits_value, without_leading_plus}
use Rattle.clap.specs.Words.{App, Row, Rule, Text, IsUnsignedIn, all_of, kind_of, new_app, new_rule, one_of, subcommand_of, with_rule, with_subcommand}
use Rattle.clap.specs.declared.builder.value_parser.ValueParser.TheVariants.{Unsigned}
use Rattle.clap.specs.declared.error.Error.{Error}
use Rattle.clap.specs.declared.error.kind.ErrorKind.TheVariants.{OutOfMemory}
use Rattle.command_line.specs.declared.Choice.{Choice}
use Rattle.command_line.specs.declared.Choice.TheVariants.{Converge, ForTeam, Replay, Script}
use Rattle.command_line.specs.declared.Team.{Team}

-- ---- what may be said

-- `--workers N`: wanted, a number from 1 to 64
abbrev pub workers_rule : Rule
workers_rule = record (new_rule (codes "workers")) {
  long = Some (codes "workers");
  value_names = 1;
  parser = Some (Unsigned 1 64);
  required = true;
}

-- `--turns T`: a number from 1 to 1,000,000, and 100,000 where it is not said
abbrev pub turns_rule : Rule
turns_rule = record (new_rule (codes "turns")) {
  long = Some (codes "turns");
  value_names = 1;
  parser = Some (Unsigned 1 1000000);
  defaults = codes "100000" ∷ [];
}

-- `FILE..`: wanted, 1 to 64 of them
abbrev pub files_rule : Rule
files_rule = record (new_rule (codes "FILE")) {
  range = Some (record { start_inclusive = 1; end_inclusive = 64 });
  required = true;
}

-- `team`, with its arguments
abbrev pub team_app : App
team_app = with_rule (with_rule (with_rule (new_app (codes "team")) workers_rule) turns_rule) files_rule

-- `bgpsim`, which has a version and wants a subcommand
abbrev pub bgpsim : App
bgpsim = record (new_app (codes "bgpsim")) {
  top = record (new_app (codes "bgpsim")).top { has_version = true; subcommand_required = true };
}

-- the same, with its subcommands; `script`, `converge` and `replay` take no arguments
abbrev pub commands : App
commands =
    with_subcommand
    (with_subcommand
    (with_subcommand (with_subcommand bgpsim (new_app (codes "script")).top) (new_app (codes "converge")).top)
    (new_app (codes "replay")).top)
    team_app.top

-- ---- what is asked for

-- the number that is written so
abbrev pub number_of : Text → ℕ
number_of text = digits_value 10 (without_leading_plus text)

-- the team that the rows of the arguments of `team` ask for
pub record IsTeam (team : Team) (rows : List Row) : Type 0 where
  pub workers : option_map number_of (one_of (codes "workers") rows) ≡ Some team.workers
  pub turns : option_map number_of (one_of (codes "turns") rows) ≡ Some team.turns
  pub files : all_of (codes "FILE") rows ≡ Some (map (λ file. file.now) team.files.items)

-- the subcommand of a choice, and the rows of its arguments
abbrev pub IsChoice : Choice → Text × List Row → Type 0
IsChoice Script met = met.0 ≡ codes "script"
IsChoice Converge met = met.0 ≡ codes "converge"
IsChoice Replay met = met.0 ≡ codes "replay"
IsChoice (ForTeam team) met = (met.0 ≡ codes "team") × IsTeam team met.1

-- what `clap` reads in the words is the choice's subcommand, with its arguments
abbrev pub Chooses : List Text → Choice → Type 0
Chooses words choice = IsSomeAnd (subcommand_of commands words) (IsChoice choice)

-- it is the choice, where there is memory
abbrev pub IsTaken : Choice → Result Choice Error → Type 0
IsTaken choice result = MatchResult result (λ c. c ≡ choice) (λ e. kind_of e ≡ OutOfMemory)

-- ---- within which limits

abbrev pub IsFromOneTo : ℕ → ℕ → Type 0
IsFromOneTo most n = (1 ≤ n) × (n ≤ most)

pub record IsTeamWithin (team : Team) : Type 0 where
  pub workers : IsFromOneTo 64 team.workers
  pub turns : IsFromOneTo 1000000 team.turns
  pub files : IsFromOneTo 64 (length team.files.items)

-- the limits of a choice: only a team has any
abbrev pub IsWithin : Choice → Type 0
IsWithin (ForTeam team) = IsTeamWithin team
IsWithin _ = ⊤

-- ---- what a command line has that `clap` finds no fault in

-- a number is there, and fits into 64 bits
abbrev pub IsNumber : Option Text → Type 0
IsNumber text = IsSomeAnd text (IsUnsignedIn 0 18446744073709551615)

-- the rows of the arguments of `team`
pub record HasTeam (rows : List Row) : Type 0 where
  pub workers : IsSomeAnd (one_of (codes "workers") rows) (IsUnsignedIn 1 64)
  pub turns : IsSomeAnd (one_of (codes "turns") rows) (IsUnsignedIn 1 1000000)
  pub files : IsSomeAnd (all_of (codes "FILE") rows) (λ files. IsFromOneTo 64 (length files))

-- a subcommand, and the rows of its arguments
abbrev pub IsMet : Text × List Row → Type 0
IsMet met = (met.0 ≡ codes "script") ⊎ ((met.0 ≡ codes "converge") ⊎ ((met.0 ≡ codes "replay")
    ⊎ ((met.0 ≡ codes "team") × HasTeam met.1)))
