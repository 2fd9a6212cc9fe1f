use Rattle.std.proofs.Common.{◌∙◌, ap}
use Rattle.std.specs.Map.{lookup}
use Rattle.std.specs.BTreeMap.{is_at}
use Rattle.net_prefix.specs.Address.{addr_cmp}
use Rattle.igp_cost.specs.Trees.{tree_of}
use Rattle.net_conf.proofs.Carry.{put}
use Rattle.net_conf.proofs.kept.edited.add_missing.Goals as goal

pub returns-in_ok-put : goal.returns-in_ok-put
returns-in_ok-put c r =
    ap (lookup (is_at (addr_cmp r))) c.in_ok-put.ensures.ok
    ∙ put (tree_of c.args.graph.now.nodes c.args.graph.now.edges) c.args.addr c.in_ok-tree.tree
    c.in_ok-tree.ensures.whole c.args.trees.now r
