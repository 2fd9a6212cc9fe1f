use Rattle.std.proofs.Common.{rules, ◌<◌, length, refl, sym, get_or, Contains, ◌∙◌}
use Rattle.std.proofs.lemmas.List.{get_or_default}
use Rattle.igp_cost.proofs.Kernel.{no_link, fits, closes_at, not_before_from, closed_none, closed_some, bounded_set, backed_set}
use Rattle.igp_cost.proofs.least_trees.rooted.RootedGraph.relax.Goals as goal

pub offer-requires-clause-bounded : goal.offer-requires-clause-bounded
offer-requires-clause-bounded c =
    fits _ _ c.args.self.now.size c.requires.bounded _ (get_or c.args.self.now.links.now c.args.at no_link).from refl

pub returns-in_default-clause-closed : goal.returns-in_default-clause-closed
returns-in_default-clause-closed c =
    let links = c.args.self.now.links.now in
    let link = get_or links c.args.at no_link in
    closes_at c.args.self.now.nodes.now c.args.self.now.source c.args.labels.now link links c.args.at c.requires.at
    (get_or_default links c.args.at no_link link c.requires.at)
    (closed_none c.args.self.now.nodes.now c.args.self.now.source c.args.labels.now link (sym c.offer.ensures
    ∙ c.in_default.is))

pub returns-then-improves-clause-bounded : goal.returns-then-improves-clause-bounded
returns-then-improves-clause-bounded c =
    let link = get_or c.args.self.now.links.now c.args.at no_link in
    let ends = c.args.self.now.within c.args.at no_link c.requires.at in
    let to_in : link.to < length c.args.labels.now = search rules in
    bounded_set c.args.self.now.nodes.now c.args.self.now.source c.args.labels.now link c.in-Some.new ends.2 to_in
    (sym c.offer.ensures ∙ c.in-Some.is) (c.improves.ensures.0 c.if-improves.true) c.requires.bounded

pub returns-then-improves-clause-backed : goal.returns-then-improves-clause-backed
returns-then-improves-clause-backed c backed =
    let links = c.args.self.now.links.now in
    let link = get_or links c.args.at no_link in
    let ends = c.args.self.now.within c.args.at no_link c.requires.at in
    let among : Contains links link =
    (c.args.at, c.requires.at, sym (get_or_default links c.args.at no_link link c.requires.at)) in
    let to_in : link.to < length c.args.labels.now = search rules in
    backed_set c.args.self.now.nodes.now c.args.self.now.source links c.args.labels.now link c.in-Some.new among ends.2
    to_in (sym c.offer.ensures ∙ c.in-Some.is) (c.improves.ensures.0 c.if-improves.true) backed

pub returns-else-improves-clause-closed : goal.returns-else-improves-clause-closed
returns-else-improves-clause-closed c =
    let links = c.args.self.now.links.now in
    let link = get_or links c.args.at no_link in
    closes_at c.args.self.now.nodes.now c.args.self.now.source c.args.labels.now link links c.args.at c.requires.at
    (get_or_default links c.args.at no_link link c.requires.at)
    (closed_some c.args.self.now.nodes.now c.args.self.now.source c.args.labels.now link _ (sym c.offer.ensures
    ∙ c.in-Some.is) (not_before_from _ _ c.improves.ensures c.if-improves.false))
