use Rattle.std.proofs.Common.{◌∙◌, sym, ap, subst, arith}
use Rattle.std.proofs.lemmas.List.Elements.{All-nil}
use Rattle.std.specs.Map.{lookup}
use Rattle.std.specs.BTreeMap.{is_at}
use Rattle.net_prefix.specs.Address.{addr_cmp}
use Rattle.igp_cost.specs.Metric.{IsMetric}
use Rattle.net_conf.specs.Configuration.{unconfigured}
use Rattle.net_conf.specs.Configured.{AreApart, HasEnds}
use Rattle.net_conf.specs.Kept.{IsSound, tree_kept}
use Rattle.net_conf.proofs.kept.conf_trees.ConfTrees.new.Goals as goal

empty : IsSound unconfigured
empty = record {
  size = omega arith;
  links = All-nil (HasEnds unconfigured);
  sessions = All-nil (HasEnds unconfigured);
  links_apart = All-nil AreApart;
  sessions_apart = All-nil AreApart;
  metrics = All-nil (λ l. IsMetric l.metric);
}

pub invariant_of-result : goal.invariant_of-result
invariant_of-result c = (
  subst IsSound (sym c.new.ensures) empty,
  λ r. ap (lookup (is_at (addr_cmp r))) c.new-2.ensures
      ∙ sym (ap (λ x. tree_kept x r) c.new.ensures),
)
