-- No node lies outside the root, and none without it.
use Rattle.std.proofs.Common.{◌≡◌, length, None, Some, ap, ◌∙◌, arith, rules}
use Rattle.prefix_table.specs.Trie.{whole, covers, prefix_at}
use Rattle.prefix_table.proofs.Halves.{all_below, covered}
use Rattle.prefix_table.proofs.walk.root.Goals as goal

pub returns-then-is_empty-clause-all : goal.returns-then-is_empty-clause-all
returns-then-is_empty-clause-all c =
    let none : length c.args.nodes.now ≡ 0 = search rules in
    all_below c.args.nodes.now None (λ j lt. absurd (omega (arith, lt, none)))

pub returns-else-is_empty-clause-all : goal.returns-else-is_empty-clause-all
returns-else-is_empty-clause-all c =
    all_below c.args.nodes.now (Some (record { 0 = 0 }))
    (λ j lt. ap (λ p. covers p (prefix_at c.args.nodes.now j)) c.requires.root
    ∙ covered whole (prefix_at c.args.nodes.now j) (c.requires.covered j lt))
