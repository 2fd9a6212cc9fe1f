use Rattle.std.proofs.Common.{length, is_some, set, refl, sym, ap, ◌∙◌}
use Rattle.std.proofs.lemmas.Option.{slice_get_read}
use Rattle.prefix_table.specs.Trie.{places_in}
use Rattle.prefix_table.specs.Values.{values_of}
use Rattle.prefix_table.proofs.Values.{key_of_places, none_of_places, changed_map, unchanged_map}
use Rattle.prefix_table.proofs.trie.adjust_in.Goals as goal

pub returns-in-Some-clause-there : goal.returns-in-Some-clause-there
returns-in-Some-clause-there g c =
    sym (key_of_places c.args.values.now.items (places_in c.args.nodes.now) c.requires.index.placed c.args.prefix
    c.in-Some.place (sym c.in-Some.ensures))

pub returns-in-Some-clause-adjusted : goal.returns-in-Some-clause-adjusted
returns-in-Some-clause-adjusted g c =
    let vs = c.args.values.now.items in
    let is = sym c.in-Some.ensures in
    let there = slice_get_read vs (length vs) c.in-Some.place c.index_mut.result.now refl
    (c.requires.index.placed.in_range c.args.prefix c.in-Some.place is) c.index_mut.ensures.value in
    ap (λ v. values_of (set vs c.in-Some.place v) (places_in c.args.nodes.now)) c.adjust.ensures
    ∙ changed_map vs (places_in c.args.nodes.now) c.requires.index.placed
    (g.A.Adjust.after c.args.change.now) c.args.prefix c.in-Some.place c.index_mut.result.now is there

pub returns-in-None-clause-there : goal.returns-in-None-clause-there
returns-in-None-clause-there g c =
    sym (ap is_some (none_of_places c.args.values.now.items (places_in c.args.nodes.now) c.requires.index.placed
    c.args.prefix (sym c.in-None.ensures)))

pub returns-in-None-clause-adjusted : goal.returns-in-None-clause-adjusted
returns-in-None-clause-adjusted g c =
    unchanged_map c.args.values.now.items (places_in c.args.nodes.now) c.requires.index.placed
    (g.A.Adjust.after c.args.change.now) c.args.prefix (sym c.in-None.ensures)
