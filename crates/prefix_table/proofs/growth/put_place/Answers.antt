use Rattle.std.proofs.Common.{sym, ap, subst, ◌∙◌}
use Rattle.std.specs.FinMap as map
use Rattle.prefix_table.specs.Trie.{IsTrie, places_in, placed}
use Rattle.prefix_table.proofs.Contents.{stored, stored_map, placed_trie}
use Rattle.prefix_table.proofs.growth.put_place.Goals as goal

pub returns-clause-trie : goal.returns-clause-trie
returns-clause-trie c = subst IsTrie (sym c.set_place.ensures)
    (placed_trie c.grow-at.new.nodes.items c.grow-at.ensures.trie c.grow-at.result.0 c.args.place)

pub returns-clause-put : goal.returns-clause-put
returns-clause-put c =
    ap places_in c.set_place.ensures
    ∙ stored_map c.grow-at.new.nodes.items (placed c.grow-at.new.nodes.items c.grow-at.result.0 c.args.place)
    c.args.prefix c.args.place
    (stored c.grow-at.new.nodes.items c.grow-at.ensures.trie c.grow-at.result.0 c.args.place c.args.prefix
    c.grow-at.ensures.found)
    ∙ ap (λ es. map.insert (map.from_entries es) c.args.prefix c.args.place) c.grow-at.ensures.places
