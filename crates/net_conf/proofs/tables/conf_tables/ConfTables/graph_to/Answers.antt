use Rattle.std.proofs.Common.{◌≡◌, ◌∙◌, sym, ap, subst}
use Rattle.std.proofs.lemmas.Result.{IfOk-weaker}
use Rattle.igp_cost.specs.Topology.{Topology}
use Rattle.net_conf.specs.Costs.{edges_of}
use Rattle.net_conf.specs.Members.{edges_to, near, AreNear}
use Rattle.net_conf.proofs.Near.{edges_near, topology_to}
use Rattle.net_conf.proofs.tables.conf_tables.ConfTables.graph_to.Goals as goal

pub build-requires : goal.build-requires
build-requires c =
    let s = c.args.self.now in
    let rs = c.args.members.now in
    let same : c.deref.result.now ≡ c.deref-3.result.now = c.deref.ensures.value ∙ sym c.deref-3.ensures.value in
    let are : AreNear s (near rs c.deref-3.result.now) c.deref-2.result.now =
    subst (λ es. AreNear s (near rs es) c.deref-2.result.now) same
    (subst (AreNear s (near rs c.deref.result.now)) (sym c.deref-2.ensures.value) c.in_ok-nodes.ensures) in
    topology_to s rs c.deref-3.result.now c.deref-2.result.now are c.requires (c.deref-3.ensures.value
    ∙ c.in_ok-edges.ensures ∙ edges_near rs s.links)

pub returns-clause-nodes : goal.returns-clause-nodes
returns-clause-nodes c =
    let s = c.args.self.now in
    let rs = c.args.members.now in
    let same : c.deref.result.now ≡ c.deref-3.result.now = c.deref.ensures.value ∙ sym c.deref-3.ensures.value in
    let are : AreNear s (near rs c.deref-3.result.now) c.deref-2.result.now =
    subst (λ es. AreNear s (near rs es) c.deref-2.result.now) same
    (subst (AreNear s (near rs c.deref.result.now)) (sym c.deref-2.ensures.value) c.in_ok-nodes.ensures) in
    IfOk-weaker c.build.result (λ g. g ≡ record { nodes = c.deref-2.result.now; edges = c.deref-3.result.now })
    (λ g. AreNear s (near rs g.edges) g.nodes)
    (λ g is. subst (λ (x : Topology). AreNear s (near rs x.edges) x.nodes) (sym is) are) c.build.ensures

pub returns-clause-edges : goal.returns-clause-edges
returns-clause-edges c =
    let s = c.args.self.now in
    let rs = c.args.members.now in
    let edges : c.deref-3.result.now ≡ edges_to rs (edges_of s) = c.deref-3.ensures.value ∙ c.in_ok-edges.ensures
    ∙ edges_near rs s.links in
    IfOk-weaker c.build.result (λ g. g ≡ record { nodes = c.deref-2.result.now; edges = c.deref-3.result.now })
    (λ g. g.edges ≡ edges_to rs (edges_of s))
    (λ g is. ap (λ (x : Topology). x.edges) is ∙ edges) c.build.ensures
