-- One more bit is shared.
use Rattle.std.proofs.Common.{◌≡◌, sym, ap, ◌∙◌, arith, rules}
use Rattle.prefix_table.specs.Trie.{bit_at}
use Rattle.prefix_table.proofs.Prefixes.{one_more_bit}
use Rattle.prefix_table.proofs.growth.shared.Goals as goal

pub loop-len-preserved : goal.loop-len-preserved
loop-len-preserved c =
    let first = c.len.ensures.value in
    let second = c.len-in-loop-len.ensures.value in
    let block = c.len.ensures.block in
    let equal : c.bit.result ≡ c.bit-then-len.result = search rules in
    let bits : bit_at c.args.first.addr c.loop-len.len ≡ bit_at c.args.second.addr c.loop-len.len =
    ap (λ a. bit_at a c.loop-len.len) (sym c.addr.ensures) ∙ sym c.bit.ensures ∙ equal ∙ c.bit-then-len.ensures
    ∙ ap (λ a. bit_at a c.loop-len.len) c.addr-then-len.ensures in
    record {
      long = omega arith;
      short = omega arith;
      both = one_more_bit c.args.first.addr c.loop-len.len c.args.second (omega arith)
          (omega arith) c.loop-len.invariant.both bits;
    }
