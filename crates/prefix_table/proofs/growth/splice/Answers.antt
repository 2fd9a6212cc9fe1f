-- The new node is linked between the parent and what lay in its half.
use Rattle.std.proofs.Common.{◌≡◌, ◌++◌, ◌∷◌, [], length, true, false, None, refl, sym, ap, subst, ◌∙◌, arith}
use Rattle.prefix_table.specs.Trie.{IsTrie, linked, child_at, prefixes, node_places, HasPrefix}
use Rattle.prefix_table.proofs.Linking.{below_in_range, on_side_of, linked_trie, linked_entries, linked_prefixes, last_prefix}
use Rattle.prefix_table.proofs.growth.splice.Goals as goal

pub on_side-low-requires : goal.on_side-low-requires
on_side-low-requires c =
    below_in_range c.args.nodes.now.items c.deref-2.result.now c.deref.result.now c.args.parent.0 c.len-2.result
    c.args.upper c.args.prefix c.child_below-below.result c.requires.trie c.requires.here c.requires.gap
    c.deref-2.ensures.value c.deref.ensures.value c.len-2.ensures.value c.child_below-below.ensures

pub on_side-high-requires : goal.on_side-high-requires
on_side-high-requires c =
    below_in_range c.args.nodes.now.items c.deref-3.result.now c.deref.result.now c.args.parent.0 c.len-3.result
    c.args.upper c.args.prefix c.child_below-below.result c.requires.trie c.requires.here c.requires.gap
    c.deref-3.ensures.value c.deref.ensures.value c.len-3.ensures.value c.child_below-below.ensures

pub returns-clause-trie : goal.returns-clause-trie
returns-clause-trie c =
    let below = c.child_below-below.ensures
    ∙ ap (λ zs. child_at zs c.args.upper c.args.parent.0) c.deref.ensures.value in
    let low = on_side_of c.args.nodes.now.items c.deref-2.result.now c.child_below-below.result
    (child_at c.args.nodes.now.items c.args.upper c.args.parent.0) c.len-2.result c.args.prefix.len false
    c.on_side-low.result
    c.deref-2.ensures.value below c.len-2.ensures.value c.on_side-low.ensures.some c.on_side-low.ensures.none in
    let high = on_side_of c.args.nodes.now.items c.deref-3.result.now c.child_below-below.result
    (child_at c.args.nodes.now.items c.args.upper c.args.parent.0) c.len-3.result c.args.prefix.len true
    c.on_side-high.result
    c.deref-3.ensures.value below c.len-3.ensures.value c.on_side-high.ensures.some c.on_side-high.ensures.none in
    let size : c.len.result ≡ length c.args.nodes.now.items = omega arith in
    let is = c.link.ensures.linked ∙ ap (λ l. linked l c.args.parent.0 c.args.upper (record { 0 = c.len.result }))
    (c.push_reserved.ensures.items ∙ ap (λ x. c.args.nodes.now.items ++ x ∷ []) c.new.ensures)
    ∙ ap (λ n. linked (c.args.nodes.now.items ++ record {
      prefix = c.args.prefix;
      low = c.on_side-low.result;
      high = c.on_side-high.result;
      place = None;
    } ∷ []) c.args.parent.0 c.args.upper (record { 0 = n })) size in
    subst IsTrie (sym is) (linked_trie c.args.nodes.now.items c.args.parent.0 c.args.upper
    (record { prefix = c.args.prefix; low = c.on_side-low.result; high = c.on_side-high.result; place = None })
    c.requires.here low high c.requires.trie c.requires.gap)

pub returns-clause-places : goal.returns-clause-places
returns-clause-places c =
    let below = c.child_below-below.ensures
    ∙ ap (λ zs. child_at zs c.args.upper c.args.parent.0) c.deref.ensures.value in
    let low = on_side_of c.args.nodes.now.items c.deref-2.result.now c.child_below-below.result
    (child_at c.args.nodes.now.items c.args.upper c.args.parent.0) c.len-2.result c.args.prefix.len false
    c.on_side-low.result
    c.deref-2.ensures.value below c.len-2.ensures.value c.on_side-low.ensures.some c.on_side-low.ensures.none in
    let high = on_side_of c.args.nodes.now.items c.deref-3.result.now c.child_below-below.result
    (child_at c.args.nodes.now.items c.args.upper c.args.parent.0) c.len-3.result c.args.prefix.len true
    c.on_side-high.result
    c.deref-3.ensures.value below c.len-3.ensures.value c.on_side-high.ensures.some c.on_side-high.ensures.none in
    let size : c.len.result ≡ length c.args.nodes.now.items = omega arith in
    let is = c.link.ensures.linked ∙ ap (λ l. linked l c.args.parent.0 c.args.upper (record { 0 = c.len.result }))
    (c.push_reserved.ensures.items ∙ ap (λ x. c.args.nodes.now.items ++ x ∷ []) c.new.ensures)
    ∙ ap (λ n. linked (c.args.nodes.now.items ++ record {
      prefix = c.args.prefix;
      low = c.on_side-low.result;
      high = c.on_side-high.result;
      place = None;
    } ∷ []) c.args.parent.0 c.args.upper (record { 0 = n })) size in
    ap node_places is ∙ linked_entries c.args.nodes.now.items c.args.parent.0 c.args.upper
    (record { prefix = c.args.prefix; low = c.on_side-low.result; high = c.on_side-high.result; place = None })
    c.requires.here low high refl

pub returns-clause-prefixes : goal.returns-clause-prefixes
returns-clause-prefixes c =
    let below = c.child_below-below.ensures
    ∙ ap (λ zs. child_at zs c.args.upper c.args.parent.0) c.deref.ensures.value in
    let low = on_side_of c.args.nodes.now.items c.deref-2.result.now c.child_below-below.result
    (child_at c.args.nodes.now.items c.args.upper c.args.parent.0) c.len-2.result c.args.prefix.len false
    c.on_side-low.result
    c.deref-2.ensures.value below c.len-2.ensures.value c.on_side-low.ensures.some c.on_side-low.ensures.none in
    let high = on_side_of c.args.nodes.now.items c.deref-3.result.now c.child_below-below.result
    (child_at c.args.nodes.now.items c.args.upper c.args.parent.0) c.len-3.result c.args.prefix.len true
    c.on_side-high.result
    c.deref-3.ensures.value below c.len-3.ensures.value c.on_side-high.ensures.some c.on_side-high.ensures.none in
    let size : c.len.result ≡ length c.args.nodes.now.items = omega arith in
    let is = c.link.ensures.linked ∙ ap (λ l. linked l c.args.parent.0 c.args.upper (record { 0 = c.len.result }))
    (c.push_reserved.ensures.items ∙ ap (λ x. c.args.nodes.now.items ++ x ∷ []) c.new.ensures)
    ∙ ap (λ n. linked (c.args.nodes.now.items ++ record {
      prefix = c.args.prefix;
      low = c.on_side-low.result;
      high = c.on_side-high.result;
      place = None;
    } ∷ []) c.args.parent.0 c.args.upper (record { 0 = n })) size in
    ap prefixes is ∙ linked_prefixes c.args.nodes.now.items c.args.parent.0 c.args.upper
    (record { prefix = c.args.prefix; low = c.on_side-low.result; high = c.on_side-high.result; place = None })
    c.requires.here low high

pub returns-clause-found : goal.returns-clause-found
returns-clause-found c =
    let below = c.child_below-below.ensures
    ∙ ap (λ zs. child_at zs c.args.upper c.args.parent.0) c.deref.ensures.value in
    let low = on_side_of c.args.nodes.now.items c.deref-2.result.now c.child_below-below.result
    (child_at c.args.nodes.now.items c.args.upper c.args.parent.0) c.len-2.result c.args.prefix.len false
    c.on_side-low.result
    c.deref-2.ensures.value below c.len-2.ensures.value c.on_side-low.ensures.some c.on_side-low.ensures.none in
    let high = on_side_of c.args.nodes.now.items c.deref-3.result.now c.child_below-below.result
    (child_at c.args.nodes.now.items c.args.upper c.args.parent.0) c.len-3.result c.args.prefix.len true
    c.on_side-high.result
    c.deref-3.ensures.value below c.len-3.ensures.value c.on_side-high.ensures.some c.on_side-high.ensures.none in
    let size : c.len.result ≡ length c.args.nodes.now.items = omega arith in
    let is = c.link.ensures.linked ∙ ap (λ l. linked l c.args.parent.0 c.args.upper (record { 0 = c.len.result }))
    (c.push_reserved.ensures.items ∙ ap (λ x. c.args.nodes.now.items ++ x ∷ []) c.new.ensures)
    ∙ ap (λ n. linked (c.args.nodes.now.items ++ record {
      prefix = c.args.prefix;
      low = c.on_side-low.result;
      high = c.on_side-high.result;
      place = None;
    } ∷ []) c.args.parent.0 c.args.upper (record { 0 = n })) size in
    let last = last_prefix c.args.nodes.now.items c.link.new.nodes.items c.args.prefix (ap prefixes is
    ∙ linked_prefixes c.args.nodes.now.items c.args.parent.0 c.args.upper
    (record { prefix = c.args.prefix; low = c.on_side-low.result; high = c.on_side-high.result; place = None })
    c.requires.here low high) in
    subst (λ n. HasPrefix c.link.new.nodes.items n c.args.prefix) (sym size) last
