use Rattle.std.proofs.Common.{◌≡◌, None, Some, sym, ap, ◌∙◌}
use Rattle.std.specs.FinMap as map
use Rattle.net_prefix.specs.Prefix.{prefix_cmp}
use Rattle.prefix_table.specs.Trie.{places_in}
use Rattle.prefix_table.specs.Values.{values_of}
use Rattle.prefix_table.proofs.Values.{value_of_place, none_of_places, written_map}
use Rattle.prefix_table.proofs.trie.put_near.Goals as goal

pub returns-in-Some-clause-before : goal.returns-in-Some-clause-before
returns-in-Some-clause-before g c =
    let is : map.get (places_in c.args.nodes.now.items) c.args.prefix ≡ Some c.in-Some.place =
    sym (c.in-Some.ensures ∙ ap (λ ns. map.get {R = prefix_cmp} (places_in ns) c.args.prefix) c.deref.ensures.value) in
    sym (value_of_place c.args.values.now.items (places_in c.args.nodes.now.items) c.requires.index.placed c.args.prefix
    c.in-Some.place c.write.result is c.write.ensures.before)

pub returns-in-Some-clause-inserted : goal.returns-in-Some-clause-inserted
returns-in-Some-clause-inserted g c =
    let is : map.get (places_in c.args.nodes.now.items) c.args.prefix ≡ Some c.in-Some.place =
    sym (c.in-Some.ensures ∙ ap (λ ns. map.get {R = prefix_cmp} (places_in ns) c.args.prefix) c.deref.ensures.value) in
    ap (λ vs. values_of vs (places_in c.args.nodes.now.items)) c.write.ensures.written
    ∙ written_map c.args.values.now.items (places_in c.args.nodes.now.items) c.requires.index.placed c.args.prefix
    c.in-Some.place c.args.value is

pub returns-in_default-2-clause-absent : goal.returns-in_default-2-clause-absent
returns-in_default-2-clause-absent g c =
    let none : map.get (places_in c.args.nodes.now.items) c.args.prefix ≡ None =
    sym (c.place_near.ensures ∙ ap (λ ns. map.get {R = prefix_cmp} (places_in ns) c.args.prefix) c.deref.ensures.value)
    ∙ c.in_default.is in
    none_of_places c.args.values.now.items (places_in c.args.nodes.now.items) c.requires.index.placed c.args.prefix none

pub returns-clause-before : goal.returns-clause-before
returns-clause-before g c =
    let none : map.get (places_in c.args.nodes.now.items) c.args.prefix ≡ None =
    sym (c.place_near.ensures ∙ ap (λ ns. map.get {R = prefix_cmp} (places_in ns) c.args.prefix) c.deref.ensures.value)
    ∙ c.in_default.is in
    sym (none_of_places c.args.values.now.items (places_in c.args.nodes.now.items) c.requires.index.placed
    c.args.prefix none)
