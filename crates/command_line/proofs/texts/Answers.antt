use Rattle.std.proofs.Common.{ap, option_map, map, sym, subst, List, ℕ, Option, ◌∙◌}
use Rattle.std.specs.Prelude.{IsSome}
use Rattle.clap.specs.Words.{found_of}
use Rattle.clap.proofs.WalkLemmas.{raw_values-rows}
use Rattle.command_line.proofs.Getters.{there}
use Rattle.command_line.proofs.texts.Goals as goal

pub unwrap-requires : goal.unwrap-requires
unwrap-requires c =
    let same = c.get_strs.ensures ∙ raw_values-rows (found_of c.args.matches.now) c.args.argument.now in
    there _ c.get_strs.result (subst (λ (texts : Option (List (List ℕ))). IsSome texts) (sym same) c.requires)

pub returns : goal.returns
returns c =
    let same = c.get_strs.ensures ∙ raw_values-rows (found_of c.args.matches.now) c.args.argument.now in
    sym same ∙ ap (option_map (λ s. map (λ v. v.now) s.now)) c.unwrap.ensures
