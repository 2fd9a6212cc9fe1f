use Rattle.std.proofs.Common.{None, ◌∙◌}
use Rattle.prefix_table.specs.Trie.{child_of}
use Rattle.prefix_table.proofs.Paths.{read_field}
use Rattle.prefix_table.proofs.node.child_below.Goals as goal

pub returns : goal.returns
returns c = c.child.ensures
    ∙ read_field (child_of c.args.upper) c.args.nodes.now c.args.at.0 c.index-nodes-at.result None c.requires
    c.index-nodes-at.is
