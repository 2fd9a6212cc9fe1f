use Rattle.std.proofs.Common.{IfSome, subst}
use Rattle.std.proofs.lemmas.Result.{IfOk-weaker}
use Rattle.net_prefix.specs.declared.addr.Addr.{Addr}
use Rattle.igp_cost.specs.Walks.{Nodes}
use Rattle.igp_cost.specs.Trees.{Reached}
use Rattle.igp_cost.specs.Wired.{IsFound}
use Rattle.igp_cost.specs.Offers.{IsGrownOver}
use Rattle.igp_cost.specs.Stays.{Follows}
use Rattle.igp_cost.proofs.Leaf.{grows_whole, some_weaker}
use Rattle.igp_cost.proofs.graph.Graph.grown.Goals as goal

pub returns-in-Some-clause-follows : goal.returns-in-Some-clause-follows
returns-in-Some-clause-follows c =
    let graph = c.in-Some.graph in
    let edges = c.args.self.now.edges in
    let t = c.args.old.now in
    let found = subst (λ (a : Addr). IsFound graph.nodes.now a graph.source) c.source.ensures c.in-Some.ensures.found in
    let Grown : Reached → Type 0 = λ made. IsGrownOver graph.nodes.now graph.links.now c.args.change.now t made in
    let After : Reached → Type 0 = λ made. Follows c.args.change.now c.args.self.now.nodes edges t made in
    IfOk-weaker c.grown_tree.result (λ o. IfSome o Grown) (λ o. IfSome o After)
    (λ o. some_weaker o Grown After (λ made mended.
    subst (λ (n : Nodes). Follows c.args.change.now n edges t made) c.in-Some.ensures.nodes
    (grows_whole c.args.change.now graph.nodes.now edges graph.links.now c.in-Some.ensures.wired t graph.source
    found made mended)))
    c.grown_tree.ensures
