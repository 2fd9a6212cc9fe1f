use Rattle.std.proofs.Common.{IfSome, subst}
use Rattle.std.proofs.lemmas.Result.{IfOk-weaker}
use Rattle.net_prefix.specs.declared.addr.Addr.{Addr}
use Rattle.igp_cost.specs.Walks.{Nodes}
use Rattle.igp_cost.specs.Trees.{Reached}
use Rattle.igp_cost.specs.Wired.{IsFound}
use Rattle.igp_cost.specs.Offers.{IsMendedOver}
use Rattle.igp_cost.specs.Stays.{Follows}
use Rattle.igp_cost.proofs.Local.{follows_whole}
use Rattle.igp_cost.proofs.Leaf.{some_weaker}
use Rattle.igp_cost.proofs.graph.Graph.repaired.Goals as goal

pub returns-in-Some-clause-follows : goal.returns-in-Some-clause-follows
returns-in-Some-clause-follows c =
    let graph = c.in-Some.graph in
    let edges = c.args.self.now.edges in
    let t = c.args.old.now in
    let found = subst (λ (a : Addr). IsFound graph.nodes.now a graph.source) c.source.ensures c.in-Some.ensures.found in
    let Mended : Reached → Type 0 = λ made. IsMendedOver graph.nodes.now graph.links.now c.args.change.now t made in
    let After : Reached → Type 0 = λ made. Follows c.args.change.now c.args.self.now.nodes edges t made in
    IfOk-weaker c.mended_tree.result (λ o. IfSome o Mended) (λ o. IfSome o After)
    (λ o. some_weaker o Mended After (λ made mended.
    subst (λ (n : Nodes). Follows c.args.change.now n edges t made) c.in-Some.ensures.nodes
    (follows_whole c.args.change.now graph.nodes.now edges graph.links.now c.in-Some.ensures.wired t graph.source
    found made mended)))
    c.mended_tree.ensures
