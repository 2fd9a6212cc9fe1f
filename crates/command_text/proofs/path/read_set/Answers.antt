use Rattle.std.proofs.Common.{refl}
use Rattle.command_text.specs.Paths.{AreNumbers}
use Rattle.command_text.proofs.Readings.{at_some}
use Rattle.command_text.proofs.Numbers.{ascending_of}
use Rattle.command_text.proofs.Segments.{set_of}
use Rattle.command_text.proofs.path.read_set.Goals as goal

pub returns-clause-found : goal.returns-clause-found
returns-clause-found c =
    let are = at_some (λ numbers. AreNumbers numbers c.args.inner.now) _ _ c.in-Some.is c.in_ok-numbers.ensures.found in
    (set_of _ _ _ refl are (ascending_of 1 _ _ are (c.if-not-are_ascending.ensures.0 refl)))
