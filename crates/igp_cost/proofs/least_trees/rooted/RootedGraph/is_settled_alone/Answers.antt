use Rattle.std.proofs.Common.{◌≡◌, ◌<◌, length, ap, sym, ◌∙◌, get_or, subst, inl, inr, arith}
use Rattle.std.proofs.lemmas.Bool.{cases_lt}
use Rattle.std.proofs.lemmas.List.{get_or_default}
use Rattle.igp_cost.specs.declared.least_trees.link.Link.{Link}
use Rattle.igp_cost.specs.Labels.{addr_at}
use Rattle.igp_cost.specs.Offers.{IsQuietOver}
use Rattle.igp_cost.proofs.least_trees.rooted.RootedGraph.is_settled_alone.Goals as goal

pub loop-i-preserved : goal.loop-i-preserved
loop-i-preserved c =
    let nodes = c.args.self.now.nodes.now in
    let links = c.args.self.now.links.now in
    let n = c.loop-i.i in
    let Over : Link → Type 0 = λ link. IsQuietOver nodes c.args.tree.now (addr_at nodes c.args.at) link in
    λ k link from lt within is. elim (cases_lt k n) [
      | inl before ↦ c.loop-i.invariant k link from before within is
      | inr after ↦
          let at : n ≡ k = omega arith in
          let n_in = subst (λ j. j < length links) (sym at) within in
          subst Over (get_or_default links n _ link n_in ∙ ap (λ j. get_or links j link) at
          ∙ is) c.if-not-is_quiet_over.ensures
    ]
