use Rattle.std.proofs.Common.{sym, ap, ◌∙◌}
use Rattle.prefix_table.specs.Trie.{places_in}
use Rattle.prefix_table.specs.Values.{values_of}
use Rattle.prefix_table.proofs.Values.{value_of_place, none_of_places, written_map}
use Rattle.prefix_table.proofs.trie.replace_in.Goals as goal

pub returns-in-Some-clause-before : goal.returns-in-Some-clause-before
returns-in-Some-clause-before g c =
    value_of_place c.args.values.now.items (places_in c.args.nodes.now) c.requires.index.placed c.args.prefix
    c.in-Some.place c.write.result (sym c.in-Some.ensures) c.write.ensures.before

pub returns-in-Some-clause-replaced : goal.returns-in-Some-clause-replaced
returns-in-Some-clause-replaced g c =
    ap (λ vs. values_of vs (places_in c.args.nodes.now)) c.write.ensures.written
    ∙ written_map c.args.values.now.items (places_in c.args.nodes.now) c.requires.index.placed c.args.prefix
    c.in-Some.place c.args.value (sym c.in-Some.ensures)

pub returns-in-None-clause-absent : goal.returns-in-None-clause-absent
returns-in-None-clause-absent g c =
    none_of_places c.args.values.now.items (places_in c.args.nodes.now) c.requires.index.placed c.args.prefix
    (sym c.in-None.ensures)
