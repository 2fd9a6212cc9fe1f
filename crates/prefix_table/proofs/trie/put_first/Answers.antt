use Rattle.prefix_table.specs.Trie.{places_in}
use Rattle.prefix_table.proofs.Contents.{none_in_empty}
use Rattle.prefix_table.proofs.Values.{none_of_places}
use Rattle.prefix_table.proofs.trie.put_first.Goals as goal

pub returns-in_default-clause-absent : goal.returns-in_default-clause-absent
returns-in_default-clause-absent g c =
    none_of_places c.args.values.now.items (places_in c.args.nodes.now.items) c.requires.index.placed c.args.prefix
    (none_in_empty c.args.nodes.now.items c.args.prefix c.requires.none)
