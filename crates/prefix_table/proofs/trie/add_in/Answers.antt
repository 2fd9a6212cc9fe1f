-- The value at the end of the values, and its place in the trie.
use Rattle.std.proofs.Common.{◌≡◌, ◌++◌, ◌∷◌, [], length, sym, ap, subst, ◌∙◌, arith}
use Rattle.std.specs.FinMap as map
use Rattle.prefix_table.specs.Trie.{places_in}
use Rattle.prefix_table.specs.Values.{ArePlaced, values_of}
use Rattle.prefix_table.proofs.Values.{added_map, added_placed}
use Rattle.prefix_table.proofs.trie.add_in.Goals as goal

pub returns-clause-index : goal.returns-clause-index
returns-clause-index g c =
    let t = places_in c.args.nodes.now.items in
    let vs = c.args.values.now.items in
    let size : c.len.result ≡ length vs = omega arith in
    let places : places_in c.put_place.new.nodes.items ≡ map.insert t c.args.prefix (length vs) =
    c.put_place.ensures.put ∙ ap (map.insert t c.args.prefix) size in
    let placed = subst (ArePlaced (vs ++ c.args.value ∷ [])) (sym places)
    (added_placed vs t c.requires.index.placed c.args.prefix c.args.value) in
    record {
      trie = c.put_place.ensures.trie;
      placed = subst (λ l. ArePlaced l (places_in c.put_place.new.nodes.items))
          (sym c.push_reserved.ensures.items) placed;
    }

pub returns-clause-inserted : goal.returns-clause-inserted
returns-clause-inserted g c =
    let t = places_in c.args.nodes.now.items in
    let vs = c.args.values.now.items in
    let size : c.len.result ≡ length vs = omega arith in
    let places : places_in c.put_place.new.nodes.items ≡ map.insert t c.args.prefix (length vs) =
    c.put_place.ensures.put ∙ ap (map.insert t c.args.prefix) size in
    ap (values_of c.push_reserved.new.self.items) places
    ∙ ap (λ l. values_of l (map.insert t c.args.prefix (length vs))) c.push_reserved.ensures.items
    ∙ added_map vs t c.requires.index.placed c.args.prefix c.args.value
