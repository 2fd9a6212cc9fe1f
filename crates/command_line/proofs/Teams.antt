-- What the rows of `team` have where the parse has no fault.
use Rattle.std.proofs.Common.{◌≡◌, Decides, true≢false, ◌∙◌, ap, sym, subst, refl, ℕ, Bool, cond, true, false, not, ◌&&◌, ◌||◌, ◌≤◌, ◌==◌, nat_lt, List, [], ◌∷◌, ◌++◌, append-nil, length, Option, Some, None, is_some, codes, option_map, arith}
use Rattle.std.specs.Prelude.{IfSome, IsSomeAnd, find, fold, if◌then◌else◌, option_and_then, slice_get}
use Rattle.std.specs.List.{All}
use Rattle.std.specs.Str.{bytes_eq}
use Rattle.std.proofs.lemmas.Slice.Eq.{bytes_eq-Decides}
use Rattle.std.proofs.lemmas.Bool.Decides.{nat_tests}
use Rattle.std.proofs.lemmas.List.Elements.{All-append, All-cons, All-head, All-nil, All-tail}
use Rattle.std.specs.Option.{option_map_or}
use Rattle.clap.specs.Facts.{explicit_source, parser_of_value, unwrap_or_range}
use Rattle.clap.specs.Words.{Row, Rule, Shape, Text, Accepts, IsUnsignedIn, read_as}
use Rattle.clap.specs.Kinds.{or_else, range_kinds, value_kinds, values_kinds}
use Rattle.clap.specs.Values.{reading_of, refused_kind}
use Rattle.clap.specs.Simple.{built_leaf, filled, help_rule, with_index}
use Rattle.clap.specs.Takes.{is_given}
use Rattle.clap.specs.Walk.{action_of, arg_by_id, at_row, default_rows, has_row, more_values, most_values, nothing_held, reading_by, row_text, rows_after, settled, used, used_as, values_or_missing, walk, walk_from, with_default, with_values, without}
use Rattle.clap.specs.Faults.{action_fault, check_fault, level_fault, repeat_fault, values_fault}
use Rattle.clap.specs.ValueTests.{accepts}
use Rattle.clap.specs.declared.builder.action.ArgAction.{ArgAction}
use Rattle.clap.specs.declared.builder.action.ArgAction.TheVariants.{Set, Help}
use Rattle.clap.specs.declared.builder.value_parser.Reading.{Reading}
use Rattle.clap.specs.declared.builder.value_parser.ValueParser.{ValueParser}
use Rattle.clap.specs.declared.builder.value_parser.Reading.TheVariants.{AsWritten}
use Rattle.clap.specs.declared.builder.value_parser.ValueParser.TheVariants.{Unsigned}
use Rattle.clap.specs.declared.parser.matches.ValueSource.{ValueSource}
use Rattle.clap.specs.declared.parser.matches.ValueSource.TheVariants.{CommandLine, DefaultValue}
use Rattle.clap.specs.declared.error.kind.ErrorKind.TheVariants.{ArgumentConflict, InvalidValue, MissingRequiredArgument, TooFewValues, TooManyValues, WrongNumberOfValues}
use Rattle.clap.proofs.ValueTestLemmas.{accepts-Accepts}
use Rattle.command_line.specs.CommandLine.{HasTeam, IsFromOneTo, files_rule, team_app, turns_rule, workers_rule}
use Rattle.command_line.proofs.Walks.{level_free, or_else_none, some_fault}
use Rattle.command_line.proofs.Uses.{IsKeptBy, settles, walks}

-- ---- rows

-- an id that has no row gets one at the end
at_no_row : (id : Text) (change : Row → List Row) (missing : List Row) (rows : List Row) → has_row id rows ≡ false →
    at_row id change missing rows ≡ rows ++ missing
at_no_row id change missing [] e = refl
at_no_row id change missing (r ∷ rows) e = go (bytes_eq r.id id) e (at_no_row id change missing rows)
  where
    go : (b : Bool) → (b || has_row id rows) ≡ false →
        (has_row id rows ≡ false → at_row id change missing rows ≡ rows ++ missing)
        → (if b then change r ++ rows else r ∷ at_row id change missing rows) ≡ r ∷ (rows ++ missing)
    go true e rest = cc
    go false e rest = ap (λ rs. r ∷ rs) (rest e)

has_new_row : (id : Text) (r : Row) (rows : List Row) → bytes_eq r.id id ≡ true → has_row id (rows ++ r ∷ []) ≡ true
has_new_row id r [] e = rw e refl
has_new_row id r (x ∷ rows) e = go (bytes_eq x.id id) (has_new_row id r rows e)
  where
    go : (b : Bool) → has_row id (rows ++ r ∷ []) ≡ true → (b || has_row id (rows ++ r ∷ [])) ≡ true
    go true h = refl
    go false h = h

-- ---- what a row has to have

in_range : (least most n : ℕ) → range_kinds least most n ≡ [] → (least ≤ n) × (n ≤ most)
in_range least most n e = go (nat_lt 0 least && n == 0) (least == most) (least == n) (nat_lt n least)
    (nat_lt most n) refl refl refl refl refl e
  where
    go : (a b c d f : Bool) → (nat_lt 0 least && n == 0) ≡ a → (least == most) ≡ b → (least == n) ≡ c →
        nat_lt n least ≡ d → nat_lt most n ≡ f
        → (if a then InvalidValue ∷ [] else (if b then (if c then [] else WrongNumberOfValues ∷ [])
        else (if d then TooFewValues ∷ [] else (if f then TooManyValues ∷ [] else [])))) ≡ [] → (least ≤ n) × (n ≤ most)
    go true b c d f none same exact few many e = absurd (some_fault _ _ e)
    go false true true d f none same exact few many e = (grind (arith, nat_tests), grind (arith, nat_tests))
    go false true false d f none same exact few many e = absurd (some_fault _ _ e)
    go false false c true f none same exact few many e = absurd (some_fault _ _ e)
    go false false c false true none same exact few many e = absurd (some_fault _ _ e)
    go false false c false false none same exact few many e = (grind (arith, nat_tests), grind (arith, nat_tests))

-- the values of the row are as many as the argument takes, each passes its parser, and they are read as that says
record Fits (a : Rule) (r : Row) : Type 0 where
  pub count : ((unwrap_or_range a.range).start_inclusive ≤ length r.values) × (length r.values ≤ most_values a)
  pub passes : values_fault a r.values ≡ []
  pub reading : r.reading ≡ reading_by a

-- `team` as `clap` builds it
abbrev pub team : Shape
team = built_leaf team_app.top

abbrev FitsOwn : Row → Type 0
FitsOwn r = IfSome (arg_by_id team.rules r.id) (λ a. Fits a r)

abbrev Good : List Row → Type 0
Good rows = All FitsOwn rows

abbrev row : Rule → ValueSource → List Text → Row
row a source values = record { id = a.id; values = values; count = None; source = Some source; reading = reading_by a }

good_more : (a : Rule) → arg_by_id team.rules a.id ≡ Some a →
    (source : ValueSource) (values : List Text) (rows : List Row) → Fits a (row a source values) → Good rows
    → Good (rows ++ row a source values ∷ [])
good_more a own source values rows fits good =
    let r = row a source values in
    let one : FitsOwn r = subst (λ (b : Option Rule). IfSome b (λ c. Fits c r)) (sym own) fits in
    All-append FitsOwn rows (r ∷ []) good (All-cons FitsOwn r [] one (All-nil FitsOwn))

-- ---- each use keeps that

abbrev set_rows : Rule → List Text → List Row → List Row
set_rows a values rows = with_values a.id (reading_by a) CommandLine values (without a.id rows)

set_adds : (a : Rule) (values : List Text) (rows : List Row) → has_row a.id rows ≡ false →
    set_rows a values rows ≡ rows ++ row a CommandLine values ∷ []
set_adds a values rows none =
    let same : without a.id rows ≡ rows = at_no_row a.id (λ _. []) [] rows none ∙ append-nil rows in
    ap (λ rs. with_values a.id (reading_by a) CommandLine values rs) same
    ∙ at_no_row a.id (more_values CommandLine values) (row a CommandLine values ∷ []) rows none

not_repeated : (id : Text) (rows : List Row) → repeat_fault false id rows ≡ [] → has_row id rows ≡ false
not_repeated id rows e = go (has_row id rows) e
  where
    go : (b : Bool) → (if b && true then ArgumentConflict ∷ [] else []) ≡ [] → b ≡ false
    go true e = absurd (some_fault _ _ e)
    go false e = refl

keeps_set : (a : Rule) → arg_by_id team.rules a.id ≡ Some a → action_of a ≡ Set →
    1 ≤ (unwrap_or_range a.range).start_inclusive → IsKeptBy team Good a
keeps_set a own is some [] rows e good =
    let range = in_range (unwrap_or_range a.range).start_inclusive (most_values a) 0
    (or_else_none (range_kinds (unwrap_or_range a.range).start_inclusive (most_values a) 0)
    (action_fault (action_of a) false a (values_or_missing a []) rows) e).0 in
    absurd (omega (arith, range.0))
keeps_set a own is some (v ∷ vs) rows e good =
    let values = v ∷ vs in
    let both = or_else_none (range_kinds (unwrap_or_range a.range).start_inclusive (most_values a) (length values))
    (action_fault (action_of a) false a values rows) e in
    let set : or_else (repeat_fault false a.id rows) (values_fault a values) ≡ [] =
    subst (λ (x : ArgAction). action_fault x false a values rows ≡ []) is both.1 in
    let parts = or_else_none _ _ set in
    let none = not_repeated a.id rows parts.0 in
    let added : used a values rows ≡ rows ++ row a CommandLine values ∷ [] =
    ap (λ (x : ArgAction). used_as x a.id (reading_by a) values rows) is ∙ set_adds a values rows none in
    subst Good (sym added)
    (good_more a own CommandLine values rows (record {
      count = in_range _ _ _ both.0;
      passes = parts.1;
      reading = refl;
    }) good)

-- a call for help is a fault
keeps_help : (a : Rule) → action_of a ≡ Help → IsKeptBy team Good a
keeps_help a is values rows e good =
    let both = or_else_none (range_kinds (unwrap_or_range a.range).start_inclusive (most_values a) (length values))
    (action_fault (action_of a) false a (values_or_missing a values) rows) e in
    absurd (some_fault _ _ (subst (λ (x : ArgAction). action_fault x false a (values_or_missing a values) rows
    ≡ []) is both.1))

-- the arguments as `clap` fills them in: those of `team`, and the flag for help
abbrev workers : Rule
workers = with_index 1 (filled workers_rule)

abbrev turns : Rule
turns = with_index 1 (filled turns_rule)

abbrev files : Rule
files = with_index 1 (filled files_rule)

abbrev help : Rule
help = with_index 2 (filled help_rule)

all_keep : All (IsKeptBy team Good) team.rules
all_keep =
    let none = All-nil (IsKeptBy team Good) in
    let last = All-cons (IsKeptBy team Good) help [] (keeps_help help refl) none in
    let named = All-cons (IsKeptBy team Good) files (help ∷ []) (keeps_set files refl refl (omega arith)) last in
    let timed = All-cons (IsKeptBy team Good) turns (files ∷ help ∷ [])
    (keeps_set turns refl refl (omega arith)) named in
    All-cons (IsKeptBy team Good) workers (turns ∷ files ∷ help ∷ []) (keeps_set workers refl refl (omega arith)) timed

-- ---- the rows at the end of a parse

same_either : {X : Type 0} (b : Bool) (x : X) → (if b then x else x) ≡ x
same_either true x = refl
same_either false x = refl

-- only `turns` has a default
with_turns : (rows : List Row) → fold with_default rows team.rules ≡ with_default rows turns
with_turns rows =
    let first : with_default rows workers ≡ rows = same_either (has_row workers.id rows) rows in
    let more = with_default rows turns in
    let third : with_default more files ≡ more = same_either (has_row files.id more) more in
    let fourth : with_default more help ≡ more = same_either (has_row help.id more) more in
    ap (λ rs. with_default (with_default (with_default rs turns) files) help) first
    ∙ ap (λ rs. with_default rs help) third ∙ fourth

default_is : (rows : List Row) → Good rows → Good (with_default rows turns)
    × (has_row turns.id (with_default rows turns) ≡ true)
default_is rows good = go (has_row turns.id rows) refl
  where
    added : List Row
    added = default_rows turns.id (reading_by turns) turns.defaults rows

    go : (b : Bool) → has_row turns.id rows ≡ b → Good (if b then rows else added)
        × (has_row turns.id (if b then rows else added) ≡ true)
    go true has = (good, has)
    go false none =
        let one = row turns DefaultValue (codes "100000" ∷ []) in
        let is : added ≡ rows ++ one ∷ [] = at_no_row turns.id (more_values DefaultValue (codes "100000" ∷ []))
        (one ∷ []) rows none in
        let fits : Fits turns one = record { count = (omega arith, omega arith); passes = refl; reading = refl } in (
          subst Good (sym is) (good_more turns refl DefaultValue (codes "100000" ∷ []) rows fits good),
          ap (has_row turns.id) is ∙ has_new_row turns.id one rows refl,
        )

-- ---- what is read of the rows

fits_found : (id : Text) (rows : List Row) → Good rows →
    IfSome (find (λ r. bytes_eq r.id id) rows) (λ r. IfSome (arg_by_id team.rules id) (λ a. Fits a r))
fits_found id [] good = tt
fits_found id (r ∷ rows) good = go (bytes_eq r.id id) (bytes_eq-Decides r.id id)
    (fits_found id rows (All-tail FitsOwn r rows good))
  where
    go : (b : Bool) → Decides b (r.id ≡ id) →
        IfSome (find (λ x. bytes_eq x.id id) rows) (λ x. IfSome (arg_by_id team.rules id) (λ a. Fits a x))
        → IfSome (cond b (Some r) (find (λ x. bytes_eq x.id id) rows))
        (λ x. IfSome (arg_by_id team.rules id) (λ a. Fits a x))
    go true is rest = subst (λ t. IfSome (arg_by_id team.rules t) (λ a. Fits a r)) (is.0 refl)
        (All-head FitsOwn r rows good)
    go false is rest = rest

abbrev row_at : Text → List Row → Option Row
row_at id rows = find (λ r. bytes_eq r.id id) rows

fits_at : (a : Rule) → arg_by_id team.rules a.id ≡ Some a → (rows : List Row) → Good rows →
    is_some (row_at a.id rows) ≡ true → IsSomeAnd (row_at a.id rows) (Fits a)
fits_at a own rows good has = go (row_at a.id rows) has (fits_found a.id rows good)
  where
    go : (found : Option Row) → is_some found ≡ true →
        IfSome found (λ r. IfSome (arg_by_id team.rules a.id) (λ b. Fits b r)) → IsSomeAnd found (Fits a)
    go None has fits = absurd (true≢false (sym has))
    go (Some r) has fits = subst (λ (b : Option Rule). IfSome b (λ c. Fits c r)) own fits

given_at : (id : Text) (rows : List Row) → is_given id rows ≡ true → is_some (row_at id rows) ≡ true
given_at id rows e = go (row_at id rows) e
  where
    go : (found : Option Row) → option_map_or (λ r. explicit_source r.source) found false ≡ true → is_some found ≡ true
    go None e = absurd (true≢false (sym e))
    go (Some r) e = refl

there_at : (id : Text) (rows : List Row) → has_row id rows ≡ true → is_some (row_at id rows) ≡ true
there_at id [] e = absurd (true≢false (sym e))
there_at id (r ∷ rows) e = go (bytes_eq r.id id) e (there_at id rows)
  where
    go : (b : Bool) → (b || has_row id rows) ≡ true → (has_row id rows ≡ true → is_some (row_at id rows) ≡ true) →
        is_some (cond b (Some r) (row_at id rows)) ≡ true
    go true e rest = refl
    go false e rest = rest e

accepted : (i : Bool) (p : ValueParser) (text : Text) → value_kinds i p text ≡ [] → Accepts i p text
accepted i p text e = accepts-Accepts i p text (go (accepts i p text) e)
  where
    go : (b : Bool) → (if b then [] else refused_kind p ∷ []) ≡ [] → b ≡ true
    go true e = refl
    go false e = absurd (some_fault _ _ e)

-- a number in its range
number_at : (a : Rule) (least most : ℕ) → parser_of_value a.parser ≡ Unsigned least most →
    1 ≤ (unwrap_or_range a.range).start_inclusive
    → (found : Option Row) → IsSomeAnd found (Fits a) →
    IsSomeAnd (option_and_then row_text found) (IsUnsignedIn least most)
number_at a least most is some None fits = absurd fits
number_at a least most is some (Some r) fits =
    let written : r.reading ≡ AsWritten = fits.reading ∙ ap reading_of is in
    let passes : values_kinds a.ignore_case (Unsigned least most) r.values ≡ [] =
    subst (λ (p : ValueParser). values_kinds a.ignore_case p r.values ≡ []) is fits.passes in
    subst (λ (how : Reading). IsSomeAnd (option_map (read_as how) (slice_get r.values 0)) (IsUnsignedIn least most))
    (sym written)
    (go r.values (omega (arith, fits.count.0)) passes)
  where
    go : (values : List Text) → 1 ≤ length values → values_kinds a.ignore_case (Unsigned least most) values ≡ [] →
        IsSomeAnd (option_map (read_as AsWritten) (slice_get values 0)) (IsUnsignedIn least most)
    go [] one e = absurd (omega arith)
    go (v ∷ vs) one e = accepted a.ignore_case (Unsigned least most) v (or_else_none _ _ e).0

files_at : (found : Option Row) → IsSomeAnd found (Fits files) →
    IsSomeAnd (option_map (λ r. r.values) found) (λ values. IsFromOneTo 64 (length values))
files_at None fits = absurd fits
files_at (Some r) fits = fits.count

required : (rows : List Row) → check_fault team rows false ≡ [] → (is_given workers.id rows ≡ true)
    × (is_given files.id rows ≡ true)
required rows e = go (is_given workers.id rows) (is_given files.id rows) e
  where
    go : (a b : Bool) → (if not a || (not b || false) then MissingRequiredArgument ∷ [] else []) ≡ [] →
        (a ≡ true) × (b ≡ true)
    go true true e = (refl, refl)
    go true false e = absurd (some_fault _ _ e)
    go false b e = absurd (some_fault _ _ e)

pub has_team : (words : List Text) → level_fault team [] nothing_held words false [] ≡ [] →
    HasTeam (rows_after team.rules [] words)
has_team words e =
    let free = level_free team [] words false [] e in
    let held = (walk team.rules [] nothing_held words).held in
    let walked = walks team Good all_keep [] (walk_from nothing_held) words free.walk (All-nil FitsOwn) in
    let before = (settled team.rules held).rows in
    let settled_good : Good before = settles team Good all_keep held free.settle walked in
    let rows = with_default before turns in
    let is : rows_after team.rules [] words ≡ rows = with_turns before in
    let last = default_is before settled_good in
    let given = required rows (subst (λ (rs : List Row). check_fault team rs false ≡ []) is free.check) in
    subst HasTeam (sym is)
    (record {
      workers = number_at workers 1 64 refl (omega arith) (row_at workers.id rows)
          (fits_at workers refl rows last.0 (given_at workers.id rows given.0));
      turns = number_at turns 1 1000000 refl (omega arith) (row_at turns.id rows)
          (fits_at turns refl rows last.0 (there_at turns.id rows last.1));
      files = files_at (row_at files.id rows) (fits_at files refl rows last.0 (given_at files.id rows given.1));
    })
