use Rattle.std.proofs.Common.{◌≡◌, sym, ap, ◌∙◌, rules}
use Rattle.prefix_table.specs.Trie.{prefix_at}
use Rattle.prefix_table.proofs.Contents.{near_get, near_none}
use Rattle.prefix_table.proofs.index.place_near.Goals as goal

pub returns-then-len : goal.returns-then-len
returns-then-len c =
    let size : (prefix_at c.args.nodes.now c.args.near.0).len ≡ c.args.prefix.len =
    sym (ap (λ p. p.len) c.prefix_of.ensures) ∙ search rules in
    c.place_of.ensures ∙ near_get c.args.nodes.now c.args.near.0 c.args.prefix c.requires.trie c.len-2.ensures.block
    c.requires.near size

pub returns-else-len : goal.returns-else-len
returns-else-len c =
    sym (near_none c.args.nodes.now c.args.near.0 c.args.prefix c.requires.near (λ size.
    let same : c.prefix_of.result.len ≡ (prefix_at c.args.nodes.now c.args.near.0).len =
    ap (λ p. p.len) c.prefix_of.ensures in
    c.if-len.false (c.len.ensures.value ∙ same ∙ size ∙ sym c.len-2.ensures.value)))
