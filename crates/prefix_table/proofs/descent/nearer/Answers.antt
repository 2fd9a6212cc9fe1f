-- The child in the prefix's half is the next on the way, or nothing is.
use Rattle.std.proofs.Common.{◌≡◌, None, Some, ap, sym, ◌∙◌, subst}
use Rattle.std.proofs.lemmas.Bool.{false≢true}
use Rattle.net_prefix.specs.Prefix.{Covers}
use Rattle.prefix_table.specs.Trie.{bit_at, prefix_at, child_at}
use Rattle.prefix_table.proofs.Paths.{last_at_empty, last_at_other, nearer_child}
use Rattle.prefix_table.proofs.descent.nearer.Goals as goal

pub prefix_of-requires : goal.prefix_of-requires
prefix_of-requires c = (c.requires.trie.below c.args.at.0 c.bit.result c.in-Some.next c.requires.here
    (sym c.in-Some.ensures)).in_range

pub returns-in-None-clause-none : goal.returns-in-None-clause-none
returns-in-None-clause-none c =
    let len = c.len-3.ensures.value ∙ ap (λ p. p.len) c.prefix_of-from.ensures in
    let half : c.bit.result ≡ bit_at c.args.prefix.addr (prefix_at c.args.nodes.now c.args.at.0).len = c.bit.ensures
    ∙ ap (λ a. bit_at a c.len-3.result) c.addr.ensures ∙ ap (bit_at c.args.prefix.addr) len in
    let none : child_at c.args.nodes.now (bit_at c.args.prefix.addr (prefix_at c.args.nodes.now c.args.at.0).len)
    c.args.at.0 ≡ None = ap (λ u. child_at c.args.nodes.now u c.args.at.0) (sym half) ∙ sym c.in-None.ensures in
    last_at_empty c.args.nodes.now c.requires.trie c.args.at.0 c.requires.here c.args.prefix c.requires.covers none

pub returns-then-covers-clause-found : goal.returns-then-covers-clause-found
returns-then-covers-clause-found c =
    let len = c.len-3.ensures.value ∙ ap (λ p. p.len) c.prefix_of-from.ensures in
    let half : c.bit.result ≡ bit_at c.args.prefix.addr (prefix_at c.args.nodes.now c.args.at.0).len = c.bit.ensures
    ∙ ap (λ a. bit_at a c.len-3.result) c.addr.ensures ∙ ap (bit_at c.args.prefix.addr) len in
    let is : child_at c.args.nodes.now (bit_at c.args.prefix.addr (prefix_at c.args.nodes.now c.args.at.0).len)
    c.args.at.0 ≡ Some c.in-Some.next = ap (λ u. child_at c.args.nodes.now u c.args.at.0) (sym half)
    ∙ sym c.in-Some.ensures in
    let covers : Covers (prefix_at c.args.nodes.now c.in-Some.next.0) c.args.prefix =
    subst (λ p. Covers p c.args.prefix) c.prefix_of.ensures (c.covers.ensures.0 c.if-covers.true) in
    nearer_child c.args.nodes.now c.requires.trie c.args.at.0 c.requires.here c.args.prefix c.requires.covers
    c.in-Some.next is covers

pub returns-else-covers-clause-none : goal.returns-else-covers-clause-none
returns-else-covers-clause-none c =
    let len = c.len-3.ensures.value ∙ ap (λ p. p.len) c.prefix_of-from.ensures in
    let half : c.bit.result ≡ bit_at c.args.prefix.addr (prefix_at c.args.nodes.now c.args.at.0).len = c.bit.ensures
    ∙ ap (λ a. bit_at a c.len-3.result) c.addr.ensures ∙ ap (bit_at c.args.prefix.addr) len in
    let is : child_at c.args.nodes.now (bit_at c.args.prefix.addr (prefix_at c.args.nodes.now c.args.at.0).len)
    c.args.at.0 ≡ Some c.in-Some.next = ap (λ u. child_at c.args.nodes.now u c.args.at.0) (sym half)
    ∙ sym c.in-Some.ensures in
    let other : Covers (prefix_at c.args.nodes.now c.in-Some.next.0) c.args.prefix →
    ⊥ = λ h. false≢true (sym c.if-covers.false
    ∙ c.covers.ensures.1 (subst (λ p. Covers p c.args.prefix) (sym c.prefix_of.ensures) h)) in
    last_at_other c.args.nodes.now c.requires.trie c.args.at.0 c.requires.here c.args.prefix c.requires.covers
    c.in-Some.next is other
