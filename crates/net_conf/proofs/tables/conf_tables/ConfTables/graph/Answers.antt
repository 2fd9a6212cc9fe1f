use Rattle.std.proofs.Common.{◌∙◌, sym, subst}
use Rattle.igp_cost.specs.Topology.{IsTopology}
use Rattle.net_conf.specs.Costs.{nodes_of}
use Rattle.net_conf.proofs.Nodes.{topology}
use Rattle.net_conf.proofs.tables.conf_tables.ConfTables.graph.Goals as goal

pub build-requires : goal.build-requires
build-requires c =
    let s = c.args.self.now in
    subst (λ n. IsTopology n c.deref-2.result.now) (sym (c.deref.ensures.value ∙ c.in_ok-nodes.ensures.list))
    (subst (λ es. IsTopology (nodes_of s) es) (sym (c.deref-2.ensures.value ∙ c.in_ok-edges.ensures))
    (topology s c.requires c.node_list.ensures.ascending))
