use Rattle.std.proofs.Common.{rules, sym, subst}
use Rattle.igp_cost.specs.Metric.{IsMetric}
use Rattle.igp_cost.specs.Labels.{nowhere}
use Rattle.igp_cost.proofs.Links.{are_both, has_both, wired_all}
use Rattle.igp_cost.proofs.Places.{rises_from_sorted}
use Rattle.igp_cost.proofs.least_trees.wiring.both_ways.Goals as goal

pub place-from-requires-clause-rising : goal.place-from-requires-clause-rising
place-from-requires-clause-rising c = rises_from_sorted nowhere c.args.nodes.now c.requires.ascending

pub place-from-requires-clause-there : goal.place-from-requires-clause-there
place-from-requires-clause-there c =
    rw c.loop-one-item.is (c.requires.ends c.loop-one.one-index c.loop-one-item.result c.loop-one-test.true).0

pub place-to-requires-clause-rising : goal.place-to-requires-clause-rising
place-to-requires-clause-rising c = rises_from_sorted nowhere c.args.nodes.now c.requires.ascending

pub place-to-requires-clause-there : goal.place-to-requires-clause-there
place-to-requires-clause-there c =
    rw c.loop-one-item.is (c.requires.ends c.loop-one.one-index c.loop-one-item.result c.loop-one-test.true).1

pub loop-one-preserved : goal.loop-one-preserved
loop-one-preserved c =
    let e = c.loop-one-item.result in
    let metric = subst IsMetric c.cost-metric.ensures.value c.cost-metric.ensures.metric in
    let are = are_both c.args.nodes.now c.args.edges.now c.loop-one.links.items c.loop-one.one-index e.0 e.1 e.2
    c.loop-one-test.true (sym c.loop-one-item.is) metric c.place-from.result c.place-to.result c.place-from.ensures
    c.place-to.ensures c.loop-one.invariant.are c.loop-one.invariant.has in
    let has = has_both c.args.nodes.now c.args.edges.now c.loop-one.links.items c.loop-one.one-index e.0 e.1 e.2
    c.loop-one-test.true (sym c.loop-one-item.is) metric c.place-from.result c.place-to.result c.place-from.ensures
    c.place-to.ensures c.loop-one.invariant.are c.loop-one.invariant.has in
    rw (c.in_ok-add_both.ensures, c.cost-metric.ensures.value) (record { are = are; has = has })

pub returns : goal.returns
returns c = wired_all c.args.nodes.now c.args.edges.now c.loop-one.links.items c.loop-one.one-index
    (search rules) c.requires.size (rises_from_sorted nowhere c.args.nodes.now c.requires.ascending)
    c.loop-one.invariant.are c.loop-one.invariant.has
