use Rattle.std.proofs.Common.{refl}
use Rattle.std.proofs.lemmas.Bool.{false≢true}
use Rattle.command_text.proofs.Segments.{dash_path, segments_path, path_segments}
use Rattle.command_text.proofs.path.is_path.Goals as goal

pub returns-then-is_dash : goal.returns-then-is_dash
returns-then-is_dash c = (λ e. dash_path _ (c.if-is_dash.ensures.0 refl), λ has. c.if-is_dash.true)

pub returns-else-is_dash : goal.returns-else-is_dash
returns-else-is_dash c = (
  λ e. segments_path _ c.requires (c.are_segments.ensures.0 e),
  λ has. c.are_segments.ensures.1 (path_segments _ (λ dash. false≢true (c.if-is_dash.ensures.1 dash)) has),
)
