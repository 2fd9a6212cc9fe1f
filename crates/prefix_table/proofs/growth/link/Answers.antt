use Rattle.std.proofs.Common.{true, false, ap, set, sym, ◌∙◌}
use Rattle.prefix_table.specs.Trie.{linked}
use Rattle.prefix_table.proofs.Linking.{set_linked}
use Rattle.prefix_table.proofs.growth.link.Goals as goal

pub returns-then-upper-clause-linked : goal.returns-then-upper-clause-linked
returns-then-upper-clause-linked c =
    let node = c.index_mut-node.result.now in
    ap (λ high. set c.args.nodes.now.items c.args.at.0 (record {
      prefix = node.prefix;
      low = node.low;
      high = high;
      place = node.place;
    })) c.new-node.ensures
    ∙ set_linked c.args.nodes.now.items c.args.at.0 true c.args.child node c.requires.here
    c.index_mut-node.ensures.value
    ∙ ap (λ u. linked c.args.nodes.now.items c.args.at.0 u c.args.child) (sym c.if-upper.true)

pub returns-else-upper-clause-linked : goal.returns-else-upper-clause-linked
returns-else-upper-clause-linked c =
    let node = c.index_mut-node.result.now in
    ap (λ low. set c.args.nodes.now.items c.args.at.0 (record {
      prefix = node.prefix;
      low = low;
      high = node.high;
      place = node.place;
    })) c.new-node-else-upper.ensures
    ∙ set_linked c.args.nodes.now.items c.args.at.0 false c.args.child node c.requires.here
    c.index_mut-node.ensures.value
    ∙ ap (λ u. linked c.args.nodes.now.items c.args.at.0 u c.args.child) (sym c.if-upper.false)
