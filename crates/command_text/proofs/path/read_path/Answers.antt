use Rattle.std.proofs.Common.{◌≡◌, refl, sym, subst}
use Rattle.std.proofs.lemmas.Bool.{false≢true}
use Rattle.sim_event.specs.Wording.{path_text}
use Rattle.command_text.specs.Paths.{IsAsPath, AreParts}
use Rattle.command_text.proofs.Readings.{at_none, at_some}
use Rattle.command_text.proofs.Segments.{none_path, no_path, path_read}
use Rattle.command_text.proofs.path.read_path.Goals as goal

pub returns-then-is_dash : goal.returns-then-is_dash
returns-then-is_dash c = subst (λ p. IsAsPath p × (c.args.text.now ≡ path_text p)) (sym c.empty.ensures)
    (none_path _ (c.if-is_dash.ensures.0 refl))

pub returns-in_default : goal.returns-in_default
returns-in_default c = no_path _ (λ dash. false≢true (c.if-is_dash.ensures.1 dash))
    (at_none _ _ c.in_default.is c.in_ok-segments.ensures.none)

pub returns : goal.returns
returns c =
    let parts = subst (λ p. AreParts p c.args.text.now) (sym c.in_ok-shared.ensures)
    (at_some (λ segments. AreParts segments.items c.args.text.now) _ _ c.in-Some.is
    c.in_ok-segments.ensures.found) in
    path_read c.in_ok-shared.shared _ _ c.requires parts c.new.ensures
