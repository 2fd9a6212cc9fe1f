use Rattle.std.proofs.Common.{subst}
use Rattle.net_prefix.specs.declared.addr.Addr.{Addr}
use Rattle.igp_cost.specs.Walks.{Nodes}
use Rattle.igp_cost.specs.Wired.{IsFound}
use Rattle.igp_cost.specs.Stays.{Stays}
use Rattle.igp_cost.proofs.Unmoved.{both_true, stays_whole}
use Rattle.igp_cost.proofs.graph.Graph.keeps.Goals as goal

pub returns-in-Some : goal.returns-in-Some
returns-in-Some c =
    let nodes = c.in-Some.graph.nodes.now in
    let edges = c.args.self.now.edges in
    let tree = c.args.tree.now in
    let found = subst (λ (a : Addr). IsFound nodes a c.in-Some.graph.source) c.source.ensures c.in-Some.ensures.found in
    both_true c.is_unmoved.result _ _ _
    (λ loses gains. subst (λ (n : Nodes). Stays c.args.change.now n edges tree) c.in-Some.ensures.nodes
    (stays_whole c.args.change.now nodes edges c.in-Some.graph.links.now c.in-Some.ensures.wired tree
    c.in-Some.graph.source found loses gains))
    c.is_unmoved.ensures.loses c.is_unmoved.ensures.gains
