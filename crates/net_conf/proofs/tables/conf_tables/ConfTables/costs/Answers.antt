use Rattle.std.proofs.Common.{◌∙◌, ap}
use Rattle.igp_cost.specs.Topology.{is_node}
use Rattle.net_conf.proofs.Nodes.{same_node}
use Rattle.net_conf.proofs.tables.conf_tables.ConfTables.costs.Goals as goal

pub tree-requires : goal.tree-requires
tree-requires c = ap (λ g. is_node g.nodes c.args.router) c.in_ok-graph.ensures
    ∙ same_node c.args.self.now c.args.router ∙ c.requires.node
