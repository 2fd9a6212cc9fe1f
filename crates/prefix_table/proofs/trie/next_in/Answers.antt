use Rattle.std.proofs.Common.{length, refl, sym, ap, ◌∙◌}
use Rattle.std.proofs.lemmas.Option.{slice_get_read}
use Rattle.std.specs.Option.{option_map, option_and_then}
use Rattle.prefix_table.specs.Trie.{places_in}
use Rattle.prefix_table.specs.Values.{with_value}
use Rattle.prefix_table.proofs.Values.{first_of_places}
use Rattle.prefix_table.proofs.trie.next_in.Goals as goal

pub returns-in-Some : goal.returns-in-Some
returns-in-Some g c =
    let vs = c.args.values.now in
    let there = slice_get_read vs (length vs) c.in-Some.key.1 c.index-values-key.result refl
    (c.requires.placed.in_range c.in-Some.key.0 c.in-Some.key.1 c.in-Some.ensures.key) c.index-values-key.is in
    ap (option_map (λ v. (c.in-Some.key.0, v))) (sym there)
    ∙ ap (option_and_then (with_value vs)) c.in-Some.ensures.first
    ∙ first_of_places vs (places_in c.args.nodes.now) c.requires.placed c.args.after

pub returns-in-None : goal.returns-in-None
returns-in-None g c =
    ap (option_and_then (with_value c.args.values.now)) c.in-None.ensures.first
    ∙ first_of_places c.args.values.now (places_in c.args.nodes.now) c.requires.placed c.args.after
