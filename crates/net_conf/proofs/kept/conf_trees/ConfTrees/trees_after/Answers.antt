use Rattle.std.proofs.Common.{◌∙◌, sym, subst}
use Rattle.net_conf.specs.Kept.{IsLinked}
use Rattle.net_conf.proofs.TreesAfter.{linked_after}
use Rattle.net_conf.proofs.kept.conf_trees.ConfTrees.trees_after.Goals as goal

pub trees_with_link-requires-clause-linked : goal.trees_with_link-requires-clause-linked
trees_with_link-requires-clause-linked g c _ _ =
    subst (λ d. IsLinked c.args.self.now d c.in-Some.one c.in-Some.other) (sym c.requires.made)
    (linked_after c.args.self.now c.args.edit.now c.in-Some.one c.in-Some.other c.requires.passes (sym c.link.ensures
    ∙ c.in-Some.is))
