use Rattle.std.proofs.Common.{◌≡◌, ◌∙◌, List, IfOk, subst}
use Rattle.std.specs.List.{filter_map}
use Rattle.net_prefix.specs.Prefix.{Prefix}
use Rattle.reference_machine.specs.Decision.{best}
use Rattle.reference_machine.specs.Reports.{held_of, loc_rib}
use Rattle.plain_simulator.proofs.state.State.loc_rib.Goals as goal

pub returns : goal.returns
unfolding loc_rib
returns g c =
    let held_at = λ (p : Prefix). held_of p (best c.args.self.now c.args.router p) in
    subst (λ (prefixes : List Prefix). IfOk c.held.result (λ routes. routes.items ≡ filter_map held_at prefixes))
    (c.deref.ensures.value ∙ c.in_ok-prefixes.ensures) c.held.ensures
