use Rattle.std.proofs.Common.{◌∷◌, [], subst}
use Rattle.std.specs.Option.{SomeIff}
use Rattle.path_attr.specs.declared.path.Segment.TheVariants.{Seq as Sequence}
use Rattle.path_attr.specs.Path.{IsPath}
use Rattle.command_text.proofs.Readings.{at_some}
use Rattle.command_text.proofs.FrontNumbers.{sequence_first}
use Rattle.command_text.proofs.path.next_path.Goals as goal

pub returns-in-Some-clause-found : goal.returns-in-Some-clause-found
returns-in-Some-clause-found c =
    let ss = Sequence c.in-Some.numbers ∷ [] in
    let is = subst (λ r. SomeIff r (IsPath ss) ss) c.unwrap.ensures c.in_ok-path.ensures in
    let front = at_some _ _ _ c.in-Some.is c.in_ok-numbers.ensures in
    sequence_first _ front.0 _ c.in-Some.numbers _ c.requires front.1 front.2 is.1
