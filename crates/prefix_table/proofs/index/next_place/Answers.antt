use Rattle.std.proofs.Common.{◌≡◌, ℕ, length, sym, subst, ◌∙◌, arith, rules}
use Rattle.prefix_table.specs.Trie.{IsLater, IsFirstLater}
use Rattle.prefix_table.proofs.Contents.{entry_first, entry_key, no_first}
use Rattle.prefix_table.proofs.index.next_place.Goals as goal

pub returns-then-is_empty-clause-first : goal.returns-then-is_empty-clause-first
returns-then-is_empty-clause-first c =
    let none : length c.args.nodes.now ≡ 0 = search rules in
    sym (no_first c.args.nodes.now c.requires c.args.after (λ j h. omega (arith, h.in_range)))

pub returns-in-Some-clause-first : goal.returns-in-Some-clause-first
returns-in-Some-clause-first c =
    c.entry_at.ensures ∙ entry_first c.args.nodes.now c.requires c.args.after c.in-Some.at.0
    (subst (λ p. IsFirstLater c.args.nodes.now p c.args.after c.in-Some.at.0) c.requires.root
    c.in-Some.ensures.found)

pub returns-in-Some-clause-key : goal.returns-in-Some-clause-key
returns-in-Some-clause-key c =
    entry_key c.args.nodes.now c.requires c.in-Some.at.0 c.entry_at.result c.in-Some.ensures.found.is.in_range
    c.entry_at.ensures

pub returns-in-None-clause-first : goal.returns-in-None-clause-first
returns-in-None-clause-first c =
    sym (no_first c.args.nodes.now c.requires c.args.after
    (subst (λ p. (j : ℕ) → IsLater c.args.nodes.now p c.args.after j → ⊥) c.requires.root c.in-None.ensures.none))
