-- The keys that match are those that cover the prefix of the greatest length.
use Rattle.std.proofs.Common.{◌≡◌, ℕ, length, ap, subst, ◌∙◌, arith, rules}
use Rattle.std.specs.Prelude.{min}
use Rattle.prefix_table.specs.Places.{prefix_around}
use Rattle.prefix_table.specs.Trie.{IsCover, IsDeepest, prefix_at}
use Rattle.prefix_table.proofs.Contents.{entry_longest, no_longest}
use Rattle.prefix_table.proofs.index.longest_place.Goals as goal

pub returns-then-is_empty-clause-none : goal.returns-then-is_empty-clause-none
returns-then-is_empty-clause-none c =
    let none : length c.args.nodes.now ≡ 0 = search rules in
    no_longest c.args.nodes.now c.args.addr c.args.most (λ j h. omega (arith, h.in_range))

pub returns-in-Some-clause-found : goal.returns-in-Some-clause-found
returns-in-Some-clause-found c =
    let top : (prefix_at c.args.nodes.now 0).len ≡ 0 = ap (λ p. p.len) c.requires.root in
    let cut : c.cut.result ≡ prefix_around c.args.addr (min c.args.most 32) = c.cut.ensures
    ∙ ap (prefix_around c.args.addr) c.min.ensures in
    let deep = subst (λ n. IsDeepest c.args.nodes.now n c.cut.result c.in-Some.at.0) top c.in-Some.ensures.found in
    entry_longest c.args.nodes.now c.requires c.args.addr c.args.most c.in-Some.at.0 c.entry_at.result
    c.entry_at.ensures (subst (λ p. IsDeepest c.args.nodes.now 0 p c.in-Some.at.0) cut deep)

pub returns-in-None-clause-none : goal.returns-in-None-clause-none
returns-in-None-clause-none c =
    let top : (prefix_at c.args.nodes.now 0).len ≡ 0 = ap (λ p. p.len) c.requires.root in
    let cut : c.cut.result ≡ prefix_around c.args.addr (min c.args.most 32) = c.cut.ensures
    ∙ ap (prefix_around c.args.addr) c.min.ensures in
    let none = subst (λ n. (j : ℕ) → IsCover c.args.nodes.now n c.cut.result j → ⊥) top c.in-None.ensures.none in
    no_longest c.args.nodes.now c.args.addr c.args.most
    (subst (λ p. (j : ℕ) → IsCover c.args.nodes.now 0 p j → ⊥) cut none)
