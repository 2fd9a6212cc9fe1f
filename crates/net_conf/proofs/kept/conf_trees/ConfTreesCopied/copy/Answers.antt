use Rattle.std.proofs.Common.{◌≡◌, ◌∙◌, sym, ap, subst}
use Rattle.std.specs.Map.{lookup}
use Rattle.std.specs.BTreeMap.{is_at}
use Rattle.net_prefix.specs.Address.{addr_cmp}
use Rattle.net_conf.specs.Kept.{IsSound, tree_kept}
use Rattle.net_conf.proofs.kept.conf_trees.ConfTreesCopied.copy.Goals as goal

pub invariant_of-result : goal.invariant_of-result
invariant_of-result c =
    let same : c.in_ok-trees.trees ≡ c.self.inside.trees = c.in_ok-trees.ensures.ok in (
      subst IsSound (sym c.in_ok-copy.ensures) c.self.invariant.0,
      λ r. ap (lookup (is_at (addr_cmp r))) same ∙ c.self.invariant.1 r
          ∙ ap (λ x. tree_kept x r) (sym c.in_ok-copy.ensures),
    )
