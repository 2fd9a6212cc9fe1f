use Rattle.prefix_table.specs.Trie.{whole}
use Rattle.prefix_table.proofs.Paths.{read_field}
use Rattle.prefix_table.proofs.node.prefix_of.Goals as goal

pub returns : goal.returns
returns c = read_field (λ n. n.prefix) c.args.nodes.now c.args.at.0 c.index-nodes-at.result whole c.requires
    c.index-nodes-at.is
