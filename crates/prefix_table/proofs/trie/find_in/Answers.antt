use Rattle.std.proofs.Common.{length, sym, refl}
use Rattle.std.proofs.lemmas.Option.{slice_get_read}
use Rattle.prefix_table.specs.Trie.{places_in}
use Rattle.prefix_table.proofs.Values.{value_of_place, none_of_places}
use Rattle.prefix_table.proofs.trie.find_in.Goals as goal

pub returns-in-Some : goal.returns-in-Some
returns-in-Some g c =
    let is = sym c.in-Some.ensures in
    let there = slice_get_read c.args.values.now (length c.args.values.now) c.in-Some.place c.index-values-place.result
    refl (c.requires.index.placed.in_range c.args.prefix c.in-Some.place is) c.index-values-place.is in
    sym (value_of_place c.args.values.now (places_in c.args.nodes.now) c.requires.index.placed c.args.prefix
    c.in-Some.place c.index-values-place.result is there)

pub returns-in-None : goal.returns-in-None
returns-in-None g c = sym
    (none_of_places c.args.values.now (places_in c.args.nodes.now) c.requires.index.placed c.args.prefix
    (sym c.in-None.ensures))
