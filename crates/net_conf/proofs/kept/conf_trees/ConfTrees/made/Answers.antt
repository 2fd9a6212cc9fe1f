use Rattle.std.proofs.Common.{◌≡◌, ◌∙◌, sym, ap, subst, false, None}
use Rattle.net_conf.specs.Edits.{refusal_of, is_past_limit, edited}
use Rattle.net_conf.specs.Kept.{IsSound}
use Rattle.net_conf.proofs.Soundness.{within_limits, sound_after}
use Rattle.net_conf.proofs.kept.conf_trees.ConfTrees.made.Goals as goal

pub apply-requires : goal.apply-requires
apply-requires g c =
    let s = c.self.inside.tables in
    let e = c.args.edit.now in
    let none : refusal_of s e ≡ None = ap (λ x. refusal_of x e) c.self.view_is ∙ c.requires in
    subst (λ x. is_past_limit x e ≡ false) (sym c.in_ok-tables.ensures) (within_limits s e none)

pub trees_after-requires-clause-sound : goal.trees_after-requires-clause-sound
trees_after-requires-clause-sound g c _ _ =
    let s = c.self.inside.tables in
    let e = c.args.edit.now in
    let none : refusal_of s e ≡ None = ap (λ x. refusal_of x e) c.self.view_is ∙ c.requires in
    subst IsSound (sym (c.in-Ok.ensures.ok ∙ ap (λ x. edited x e) c.in_ok-tables.ensures))
    (sound_after s e c.self.invariant.0 c.knows_metric.ensures none)

pub invariant_of-conf : goal.invariant_of-conf
invariant_of-conf g c =
    let s = c.self.inside.tables in
    let e = c.args.edit.now in
    let none : refusal_of s e ≡ None = ap (λ x. refusal_of x e) c.self.view_is ∙ c.requires in (
      subst IsSound (sym (c.in-Ok.ensures.ok ∙ ap (λ x. edited x e) c.in_ok-tables.ensures))
          (sound_after s e c.self.invariant.0 c.knows_metric.ensures none),
      c.in-Ok-trees_after.ensures.trees,
    )
