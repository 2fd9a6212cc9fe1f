-- The missing node goes below the closest one.
use Rattle.std.proofs.Common.{◌≡◌, ◌≢◌, ◌<◌, ◌≤◌, length, sym, ap, subst, ◌∙◌, arith}
use Rattle.net_prefix.specs.Prefix.{Prefix, Covers}
use Rattle.prefix_table.specs.Places.{prefix_around}
use Rattle.prefix_table.specs.Trie.{bit_at, IsGap, IsLeafOf, prefix_at, child_at}
use Rattle.prefix_table.proofs.Prefixes.{covers_prefix}
use Rattle.prefix_table.proofs.Growing.{gap_empty, child_in_range, shares, gap_over, gap_fork, leaf_of}
use Rattle.prefix_table.proofs.growth.grow.Goals as goal

pub splice-requires-clause-gap : goal.splice-requires-clause-gap
splice-requires-clause-gap c =
    let near = c.requires.near in
    let from : c.prefix_of-from.result ≡ prefix_at c.args.nodes.now.items c.args.near.0 = c.prefix_of-from.ensures
    ∙ ap (λ ns. prefix_at ns c.args.near.0) c.deref.ensures.value in
    let size : c.prefix_of-from.result.len ≡ (prefix_at c.args.nodes.now.items c.args.near.0).len =
    ap (λ p. p.len) from in
    let lt : (prefix_at c.args.nodes.now.items c.args.near.0).len < c.args.prefix.len =
    omega (arith, size, c.len.ensures.value, c.len-2.ensures.value, c.if-len.false) in
    let block = c.len-2.ensures.block in
    let half : bit_at c.args.prefix.addr (prefix_at c.args.nodes.now.items c.args.near.0).len ≡ c.bit-upper.result =
    sym (c.bit-upper.ensures ∙ ap (λ a. bit_at a c.len-3.result) c.addr.ensures
    ∙ ap (bit_at c.args.prefix.addr) (c.len-3.ensures.value ∙ size)) in
    let child : c.child_below.result ≡ child_at c.args.nodes.now.items
    (bit_at c.args.prefix.addr (prefix_at c.args.nodes.now.items c.args.near.0).len) c.args.near.0 =
    c.child_below.ensures ∙ ap (λ ns. child_at ns c.bit-upper.result c.args.near.0) c.deref-2.ensures.value
    ∙ ap (λ u. child_at c.args.nodes.now.items u c.args.near.0) (sym half) in
    subst (λ u. IsGap c.args.nodes.now.items (prefix_at c.args.nodes.now.items c.args.near.0) u c.args.prefix) half
    (gap_empty c.args.nodes.now.items c.requires.trie c.args.near.0 c.args.prefix block near lt
    (sym child ∙ c.in-None.is))

pub prefix_of-requires : goal.prefix_of-requires
prefix_of-requires c =
    let near = c.requires.near in
    let from : c.prefix_of-from.result ≡ prefix_at c.args.nodes.now.items c.args.near.0 = c.prefix_of-from.ensures
    ∙ ap (λ ns. prefix_at ns c.args.near.0) c.deref.ensures.value in
    let size : c.prefix_of-from.result.len ≡ (prefix_at c.args.nodes.now.items c.args.near.0).len =
    ap (λ p. p.len) from in
    let lt : (prefix_at c.args.nodes.now.items c.args.near.0).len < c.args.prefix.len =
    omega (arith, size, c.len.ensures.value, c.len-2.ensures.value, c.if-len.false) in
    let block = c.len-2.ensures.block in
    let half : bit_at c.args.prefix.addr (prefix_at c.args.nodes.now.items c.args.near.0).len ≡ c.bit-upper.result =
    sym (c.bit-upper.ensures ∙ ap (λ a. bit_at a c.len-3.result) c.addr.ensures
    ∙ ap (bit_at c.args.prefix.addr) (c.len-3.ensures.value ∙ size)) in
    let child : c.child_below.result ≡ child_at c.args.nodes.now.items
    (bit_at c.args.prefix.addr (prefix_at c.args.nodes.now.items c.args.near.0).len) c.args.near.0 =
    c.child_below.ensures ∙ ap (λ ns. child_at ns c.bit-upper.result c.args.near.0) c.deref-2.ensures.value
    ∙ ap (λ u. child_at c.args.nodes.now.items u c.args.near.0) (sym half) in
    let is = sym child ∙ c.in-Some.is in
    let inside = child_in_range c.args.nodes.now.items c.requires.trie c.args.near.0 c.args.prefix block near lt
    c.in-Some.below is in
    omega (arith, inside, ap length c.deref-in-Some.ensures.value)

pub shared-len-requires-clause-covers : goal.shared-len-requires-clause-covers
shared-len-requires-clause-covers c =
    let near = c.requires.near in
    let from : c.prefix_of-from.result ≡ prefix_at c.args.nodes.now.items c.args.near.0 = c.prefix_of-from.ensures
    ∙ ap (λ ns. prefix_at ns c.args.near.0) c.deref.ensures.value in
    let size : c.prefix_of-from.result.len ≡ (prefix_at c.args.nodes.now.items c.args.near.0).len =
    ap (λ p. p.len) from in
    let lt : (prefix_at c.args.nodes.now.items c.args.near.0).len < c.args.prefix.len =
    omega (arith, size, c.len.ensures.value, c.len-2.ensures.value, c.if-len.false) in
    let block = c.len-2.ensures.block in
    let half : bit_at c.args.prefix.addr (prefix_at c.args.nodes.now.items c.args.near.0).len ≡ c.bit-upper.result =
    sym (c.bit-upper.ensures ∙ ap (λ a. bit_at a c.len-3.result) c.addr.ensures
    ∙ ap (bit_at c.args.prefix.addr) (c.len-3.ensures.value ∙ size)) in
    let child : c.child_below.result ≡ child_at c.args.nodes.now.items
    (bit_at c.args.prefix.addr (prefix_at c.args.nodes.now.items c.args.near.0).len) c.args.near.0 =
    c.child_below.ensures ∙ ap (λ ns. child_at ns c.bit-upper.result c.args.near.0) c.deref-2.ensures.value
    ∙ ap (λ u. child_at c.args.nodes.now.items u c.args.near.0) (sym half) in
    let is = sym child ∙ c.in-Some.is in
    let other : c.prefix_of.result ≡ prefix_at c.args.nodes.now.items c.in-Some.below.0 = c.prefix_of.ensures
    ∙ ap (λ ns. prefix_at ns c.in-Some.below.0) c.deref-in-Some.ensures.value in
    let shared = shares c.args.nodes.now.items c.requires.trie c.args.near.0 c.args.prefix block near lt
    c.in-Some.below is in
    subst (λ p. Covers (prefix_around c.args.prefix.addr c.len-in-Some.result) p) (sym other)
    (subst (λ n. Covers (prefix_around c.args.prefix.addr n) (prefix_at c.args.nodes.now.items c.in-Some.below.0))
    (sym (c.len-in-Some.ensures.value ∙ size)) shared)

pub splice-requires-then-len-2-clause-gap : goal.splice-requires-then-len-2-clause-gap
splice-requires-then-len-2-clause-gap c =
    let near = c.requires.near in
    let from : c.prefix_of-from.result ≡ prefix_at c.args.nodes.now.items c.args.near.0 = c.prefix_of-from.ensures
    ∙ ap (λ ns. prefix_at ns c.args.near.0) c.deref.ensures.value in
    let size : c.prefix_of-from.result.len ≡ (prefix_at c.args.nodes.now.items c.args.near.0).len =
    ap (λ p. p.len) from in
    let lt : (prefix_at c.args.nodes.now.items c.args.near.0).len < c.args.prefix.len =
    omega (arith, size, c.len.ensures.value, c.len-2.ensures.value, c.if-len.false) in
    let block = c.len-2.ensures.block in
    let half : bit_at c.args.prefix.addr (prefix_at c.args.nodes.now.items c.args.near.0).len ≡ c.bit-upper.result =
    sym (c.bit-upper.ensures ∙ ap (λ a. bit_at a c.len-3.result) c.addr.ensures
    ∙ ap (bit_at c.args.prefix.addr) (c.len-3.ensures.value ∙ size)) in
    let child : c.child_below.result ≡ child_at c.args.nodes.now.items
    (bit_at c.args.prefix.addr (prefix_at c.args.nodes.now.items c.args.near.0).len) c.args.near.0 =
    c.child_below.ensures ∙ ap (λ ns. child_at ns c.bit-upper.result c.args.near.0) c.deref-2.ensures.value
    ∙ ap (λ u. child_at c.args.nodes.now.items u c.args.near.0) (sym half) in
    let is = sym child ∙ c.in-Some.is in
    let other : c.prefix_of.result ≡ prefix_at c.args.nodes.now.items c.in-Some.below.0 = c.prefix_of.ensures
    ∙ ap (λ ns. prefix_at ns c.in-Some.below.0) c.deref-in-Some.ensures.value in
    let end : c.shared-len.result ≡ c.args.prefix.len = omega arith in
    let over = covers_prefix c.args.prefix (prefix_at c.args.nodes.now.items c.in-Some.below.0)
    (subst (λ n. Covers (prefix_around c.args.prefix.addr n) (prefix_at c.args.nodes.now.items c.in-Some.below.0))
    end (subst (Covers (prefix_around c.args.prefix.addr c.shared-len.result)) other c.shared-len.ensures.both)) in
    subst (λ u. IsGap c.args.nodes.now.items (prefix_at c.args.nodes.now.items c.args.near.0) u c.args.prefix) half
    (gap_over c.args.nodes.now.items c.requires.trie c.args.near.0 c.args.prefix block near lt
    c.in-Some.below is over)

pub fork-requires-clause-gap : goal.fork-requires-clause-gap
fork-requires-clause-gap c =
    let near = c.requires.near in
    let from : c.prefix_of-from.result ≡ prefix_at c.args.nodes.now.items c.args.near.0 = c.prefix_of-from.ensures
    ∙ ap (λ ns. prefix_at ns c.args.near.0) c.deref.ensures.value in
    let size : c.prefix_of-from.result.len ≡ (prefix_at c.args.nodes.now.items c.args.near.0).len =
    ap (λ p. p.len) from in
    let lt : (prefix_at c.args.nodes.now.items c.args.near.0).len < c.args.prefix.len =
    omega (arith, size, c.len.ensures.value, c.len-2.ensures.value, c.if-len.false) in
    let block = c.len-2.ensures.block in
    let half : bit_at c.args.prefix.addr (prefix_at c.args.nodes.now.items c.args.near.0).len ≡ c.bit-upper.result =
    sym (c.bit-upper.ensures ∙ ap (λ a. bit_at a c.len-3.result) c.addr.ensures
    ∙ ap (bit_at c.args.prefix.addr) (c.len-3.ensures.value ∙ size)) in
    let child : c.child_below.result ≡ child_at c.args.nodes.now.items
    (bit_at c.args.prefix.addr (prefix_at c.args.nodes.now.items c.args.near.0).len) c.args.near.0 =
    c.child_below.ensures ∙ ap (λ ns. child_at ns c.bit-upper.result c.args.near.0) c.deref-2.ensures.value
    ∙ ap (λ u. child_at c.args.nodes.now.items u c.args.near.0) (sym half) in
    let is = sym child ∙ c.in-Some.is in
    let other : c.prefix_of.result ≡ prefix_at c.args.nodes.now.items c.in-Some.below.0 = c.prefix_of.ensures
    ∙ ap (λ ns. prefix_at ns c.in-Some.below.0) c.deref-in-Some.ensures.value in
    let long : (prefix_at c.args.nodes.now.items c.args.near.0).len ≤ c.shared-len.result =
    omega (arith, size, c.len-in-Some.ensures.value, c.shared-len.ensures.long) in
    let short : c.shared-len.result < c.args.prefix.len = omega (
      arith,
      c.shared-len.ensures.short,
      c.len-in-Some-2.ensures.value,
      c.if-len-2.false,
    ) in
    let both = subst (Covers (prefix_around c.args.prefix.addr c.shared-len.result)) other c.shared-len.ensures.both in
    let differ : c.shared-len.result < (prefix_at c.args.nodes.now.items c.in-Some.below.0).len →
    bit_at c.args.prefix.addr c.shared-len.result
    ≢ bit_at (prefix_at c.args.nodes.now.items c.in-Some.below.0).addr c.shared-len.result =
    subst (λ (p : Prefix). c.shared-len.result < p.len → bit_at c.args.prefix.addr c.shared-len.result
    ≢ bit_at p.addr c.shared-len.result) other (c.shared-len.ensures.differ short) in
    let cut : prefix_around c.args.prefix.addr c.shared-len.result ≡ c.cut.result =
    sym (c.cut.ensures ∙ ap (λ a. prefix_around a c.shared-len.result) c.addr-else-len-2.ensures) in
    subst (λ p. IsGap c.args.nodes.now.items (prefix_at c.args.nodes.now.items c.args.near.0) c.bit-upper.result p) cut
    (subst (λ u. IsGap c.args.nodes.now.items (prefix_at c.args.nodes.now.items c.args.near.0) u
    (prefix_around c.args.prefix.addr c.shared-len.result)) half
    (gap_fork c.args.nodes.now.items c.requires.trie c.args.near.0 c.args.prefix block near lt c.in-Some.below is
    c.shared-len.result long short both differ))

pub fork-requires-clause-leaf : goal.fork-requires-clause-leaf
fork-requires-clause-leaf c =
    let near = c.requires.near in
    let from : c.prefix_of-from.result ≡ prefix_at c.args.nodes.now.items c.args.near.0 = c.prefix_of-from.ensures
    ∙ ap (λ ns. prefix_at ns c.args.near.0) c.deref.ensures.value in
    let size : c.prefix_of-from.result.len ≡ (prefix_at c.args.nodes.now.items c.args.near.0).len =
    ap (λ p. p.len) from in
    let lt : (prefix_at c.args.nodes.now.items c.args.near.0).len < c.args.prefix.len =
    omega (arith, size, c.len.ensures.value, c.len-2.ensures.value, c.if-len.false) in
    let block = c.len-2.ensures.block in
    let half : bit_at c.args.prefix.addr (prefix_at c.args.nodes.now.items c.args.near.0).len ≡ c.bit-upper.result =
    sym (c.bit-upper.ensures ∙ ap (λ a. bit_at a c.len-3.result) c.addr.ensures
    ∙ ap (bit_at c.args.prefix.addr) (c.len-3.ensures.value ∙ size)) in
    let child : c.child_below.result ≡ child_at c.args.nodes.now.items
    (bit_at c.args.prefix.addr (prefix_at c.args.nodes.now.items c.args.near.0).len) c.args.near.0 =
    c.child_below.ensures ∙ ap (λ ns. child_at ns c.bit-upper.result c.args.near.0) c.deref-2.ensures.value
    ∙ ap (λ u. child_at c.args.nodes.now.items u c.args.near.0) (sym half) in
    let is = sym child ∙ c.in-Some.is in
    let other : c.prefix_of.result ≡ prefix_at c.args.nodes.now.items c.in-Some.below.0 = c.prefix_of.ensures
    ∙ ap (λ ns. prefix_at ns c.in-Some.below.0) c.deref-in-Some.ensures.value in
    let long : (prefix_at c.args.nodes.now.items c.args.near.0).len ≤ c.shared-len.result =
    omega (arith, size, c.len-in-Some.ensures.value, c.shared-len.ensures.long) in
    let short : c.shared-len.result < c.args.prefix.len = omega (
      arith,
      c.shared-len.ensures.short,
      c.len-in-Some-2.ensures.value,
      c.if-len-2.false,
    ) in
    let both = subst (Covers (prefix_around c.args.prefix.addr c.shared-len.result)) other c.shared-len.ensures.both in
    let differ : c.shared-len.result < (prefix_at c.args.nodes.now.items c.in-Some.below.0).len →
    bit_at c.args.prefix.addr c.shared-len.result
    ≢ bit_at (prefix_at c.args.nodes.now.items c.in-Some.below.0).addr c.shared-len.result =
    subst (λ (p : Prefix). c.shared-len.result < p.len → bit_at c.args.prefix.addr c.shared-len.result
    ≢ bit_at p.addr c.shared-len.result) other (c.shared-len.ensures.differ short) in
    let cut : prefix_around c.args.prefix.addr c.shared-len.result ≡ c.cut.result =
    sym (c.cut.ensures ∙ ap (λ a. prefix_around a c.shared-len.result) c.addr-else-len-2.ensures) in
    subst (λ p. IsLeafOf c.args.nodes.now.items p c.args.prefix) cut
    (leaf_of c.args.nodes.now.items c.requires.trie c.args.near.0 c.args.prefix block near lt c.in-Some.below is
    c.shared-len.result long short both differ)
