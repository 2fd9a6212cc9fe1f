use Rattle.std.proofs.Common.{length, refl}
use Rattle.std.proofs.lemmas.Option.{slice_get_read}
use Rattle.prefix_table.specs.Trie.{places_in}
use Rattle.prefix_table.proofs.Values.{longest_of_places, none_longest}
use Rattle.prefix_table.proofs.trie.longest_in.Goals as goal

pub returns-in-Some-clause-found : goal.returns-in-Some-clause-found
returns-in-Some-clause-found g c =
    let vs = c.args.values.now in
    let found = c.in-Some.ensures.found in
    let there = slice_get_read vs (length vs) c.in-Some.key.1 c.index-values-key.result refl
    (c.requires.placed.in_range c.in-Some.key.0 c.in-Some.key.1 found.value) c.index-values-key.is in
    longest_of_places vs (places_in c.args.nodes.now) c.requires.placed c.args.addr c.args.most c.in-Some.key.0
    c.in-Some.key.1 c.index-values-key.result found there

pub returns-in-None-clause-none : goal.returns-in-None-clause-none
returns-in-None-clause-none g c =
    none_longest c.args.values.now (places_in c.args.nodes.now) c.requires.placed c.args.addr c.args.most
    c.in-None.ensures.none
