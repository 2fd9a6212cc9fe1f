use Rattle.std.proofs.Common.{◌∙◌, sym}
use Rattle.std.specs.Str.Parse.{ParsesUnsigned, ExplainsUnsignedError, HasUnsignedDigitsIfOk}
use Rattle.clap.specs.Words.{found_of}
use Rattle.clap.proofs.WalkLemmas.{one_text-rows}
use Rattle.command_line.proofs.Getters.{number_read}
use Rattle.command_line.proofs.number.Goals as goal

pub unwrap-requires : goal.unwrap-requires
unwrap-requires c =
    let same = one_text-rows (found_of c.args.matches.now) c.args.argument.now in
    (number_read (λ bs r. ParsesUnsigned 64 10 bs r × ExplainsUnsignedError 10 bs r × HasUnsignedDigitsIfOk bs r)
    (λ u x g. g.0) _ c.get_one.result c.requires
    (λ t is. c.get_one.ensures.value t (same ∙ is))).0

pub returns : goal.returns
returns c =
    let same = one_text-rows (found_of c.args.matches.now) c.args.argument.now in
    let read = (number_read (λ bs r. ParsesUnsigned 64 10 bs r × ExplainsUnsignedError 10 bs r
    × HasUnsignedDigitsIfOk bs r) (λ u x g. g.0) _ c.get_one.result c.requires
    (λ t is. c.get_one.ensures.value t (same ∙ is))).1 in
    sym read ∙ c.unwrap.ensures
