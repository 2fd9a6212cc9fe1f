use Rattle.std.proofs.Common.{rules}
use Rattle.std.proofs.lemmas.Map.Made.{filter_same_pairs}
use Rattle.reference_machine.specs.Machine.{is_kept}
use Rattle.plain_simulator.proofs.steps.keep.Goals as goal

pub returns : goal.returns
returns c = filter_same_pairs _ (is_kept c.args.conf.now) _ (λ k v b w f' t. search rules) _ _ c.retain.ensures.filtered
