use Rattle.std.proofs.Common.{rules}
use Rattle.std.proofs.lemmas.List.Sorted.{IsNonDecreasingBy-from_sort_by_key}
use Rattle.igp_cost.specs.declared.least_trees.link.Link.{Link}
use Rattle.igp_cost.proofs.Links.{wired_moved}
use Rattle.igp_cost.proofs.least_trees.wiring.links_of.Goals as goal

pub returns-clause-wired : goal.returns-clause-wired
returns-clause-wired c =
    wired_moved c.args.nodes.now c.args.edges.now c.in_ok-links.links.items c.sort_by_key.new.self.items
    (search rules) c.in_ok-links.ensures

pub returns-clause-sorted : goal.returns-clause-sorted
returns-clause-sorted c =
    IsNonDecreasingBy-from_sort_by_key (λ (l : Link). l.from) c.sort_by_key.new.self.items
    c.in_ok-sort_by_key.ensures.sorted (λ a r q k. search rules)
