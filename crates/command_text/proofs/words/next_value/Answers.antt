use Rattle.std.proofs.Common.{Some, None}
use Rattle.std.proofs.lemmas.Bool.Decides.{Decides-eqb}
use Rattle.std.proofs.lemmas.Slice.Eq.{strip_prefix_is}
use Rattle.command_text.proofs.Readings.{when_none}
use Rattle.command_text.proofs.Settings.{named_first, unnamed_first}
use Rattle.command_text.proofs.words.next_value.Goals as goal

pub returns-in_err-strip_prefix-clause-none : goal.returns-in_err-strip_prefix-clause-none
returns-in_err-strip_prefix-clause-none c =
    let none = strip_prefix_is Decides-eqb c.in_ok-word.word.now c.args.name.now None
    c.in_err-strip_prefix.ensures.cases in
    when_none _ _ c.from_residual-in_err-strip_prefix.ensures (unnamed_first _ _ _ _ c.in_ok-word.ensures.found none)

pub returns-clause-found : goal.returns-clause-found
returns-clause-found c =
    let is = strip_prefix_is Decides-eqb c.in_ok-word.word.now c.args.name.now
    (Some c.in_ok-strip_prefix.field-0) c.in_ok-strip_prefix.ensures.cases in
    named_first _ c.args.name.now c.in_ok-strip_prefix.field-0.now _ _ c.in_ok-word.ensures.found is
