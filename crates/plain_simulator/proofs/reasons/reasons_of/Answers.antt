use Rattle.std.proofs.Common.{◌≡◌, subst, List, IfOk}
use Rattle.route_select.specs.declared.candidate.Source.{Source}
use Rattle.route_select.specs.declared.candidate.Reason.{Reason}
use Rattle.reference_machine.specs.Decision.{standings}
use Rattle.plain_simulator.proofs.Sources.{said_of}
use Rattle.plain_simulator.proofs.reasons.reasons_of.Goals as goal

pub returns : goal.returns
returns g c =
    let P : List (Source × Reason) → Type 0 = λ xs. IfOk c.reasons_for.result (λ found. found.items ≡ xs) in
    subst P (said_of _ (standings c.args.site.now c.args.prefix c.args.received.now.entries) _ c.in_ok-chosen.ensures
    c.in_ok-sources.ensures) c.reasons_for.ensures
