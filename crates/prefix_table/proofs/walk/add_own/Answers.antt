use Rattle.std.proofs.Common.{◌++◌, ◌∷◌, [], length, refl, sym, ap, ◌∙◌, arith}
use Rattle.std.proofs.lemmas.List.{map-append}
use Rattle.std.proofs.lemmas.Option.{slice_get_read}
use Rattle.std.proofs.lemmas.Result.{on_ok_weaker}
use Rattle.prefix_table.specs.Tables.{all_seen}
use Rattle.prefix_table.specs.Trie.{entry_or_not, prefix_at}
use Rattle.prefix_table.specs.Values.{with_values}
use Rattle.prefix_table.proofs.Contents.{node_key}
use Rattle.prefix_table.proofs.Values.{own_entry}
use Rattle.prefix_table.proofs.walk.add_own.Goals as goal

pub offset_bounds-values-place : goal.offset_bounds-values-place
offset_bounds-values-place g c =
    let lt = c.requires.placed.in_range _ c.in-Some.place
    (node_key c.args.nodes.now c.requires.trie c.args.at.0 c.in-Some.place c.requires.here
    (sym c.in-Some.ensures)) in
    omega (arith, lt)

pub bounds-values-place : goal.bounds-values-place
bounds-values-place g c =
    c.requires.placed.in_range _ c.in-Some.place
    (node_key c.args.nodes.now c.requires.trie c.args.at.0 c.in-Some.place c.requires.here (sym c.in-Some.ensures))

pub returns-in-Some : goal.returns-in-Some
returns-in-Some g c =
    let vs = c.args.values.now in
    let lt = c.requires.placed.in_range _ c.in-Some.place
    (node_key c.args.nodes.now c.requires.trie c.args.at.0 c.in-Some.place c.requires.here
    (sym c.in-Some.ensures)) in
    let there = slice_get_read vs (length vs) c.in-Some.place c.index-values-place.result refl lt
    c.index-values-place.is in
    on_ok_weaker c.add.result (λ added.
    ap all_seen added
    ∙ map-append (λ e. (e.0, e.1.now)) c.args.entries.now.items _
    ∙ ap (λ l. all_seen c.args.entries.now.items ++ l)
    (ap (λ p. (p, c.index-values-place.result) ∷ []) c.prefix_of.ensures
    ∙ sym (ap (λ o. with_values vs (entry_or_not (prefix_at c.args.nodes.now c.args.at.0) o [])) (sym c.in-Some.ensures)
    ∙ own_entry vs (prefix_at c.args.nodes.now c.args.at.0) c.in-Some.place c.index-values-place.result there)))
    c.add.ensures
