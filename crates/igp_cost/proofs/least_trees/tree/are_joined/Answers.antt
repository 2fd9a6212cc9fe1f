use Rattle.std.proofs.Common.{◌≡◌, ◌++◌, List, length, sym, ap, ◌∙◌, arith}
use Rattle.std.proofs.lemmas.Bool.{true≢false}
use Rattle.std.proofs.lemmas.List.{length-append}
use Rattle.net_prefix.specs.declared.addr.Addr.{Addr}
use Rattle.igp_cost.specs.declared.label.Label.{Label}
use Rattle.igp_cost.proofs.Apart.{same_fronts, same_joined, front_and_rest}
use Rattle.igp_cost.proofs.least_trees.tree.are_joined.Goals as goal

pub returns-then-whole-first : goal.returns-then-whole-first
returns-then-whole-first c = (
  λ ever. absurd (true≢false (sym ever)),
  λ same.
      let count = ap (λ (l : List (Addr × Label)). length l) same in
      absurd (omega (arith, count, length-append c.args.first.now c.args.second.now, c.if-whole-first.true)),
)

pub returns-then-are_same_rows : goal.returns-then-are_same_rows
returns-then-are_same_rows c =
    let first = c.args.first.now in
    let second = c.args.second.now in
    let front = c.split_at.result.0.now in
    let back = c.split_at.result.1.now in
    let whole : front ++ back ≡ c.args.whole.now =
    front_and_rest c.args.whole.now front back (length first) c.split_at.ensures.front c.split_at.ensures.back in
    let is_front : first ≡ front = c.are_same_rows.ensures.0 c.if-are_same_rows.true in (
      λ ever. same_joined first second front back is_front (c.are_same_rows-then-are_same_rows.ensures.0 ever) ∙ whole,
      λ same. c.are_same_rows-then-are_same_rows.ensures.1
          (same_fronts first second front back (ap (λ (l : List (Addr × Label)). length l) is_front)
          (same ∙ sym whole)).1,
    )

pub returns-else-are_same_rows : goal.returns-else-are_same_rows
returns-else-are_same_rows c =
    let first = c.args.first.now in
    let second = c.args.second.now in
    let front = c.split_at.result.0.now in
    let back = c.split_at.result.1.now in
    let whole : front ++ back ≡ c.args.whole.now =
    front_and_rest c.args.whole.now front back (length first) c.split_at.ensures.front c.split_at.ensures.back in (
      λ ever. absurd (true≢false (sym ever ∙ c.if-are_same_rows.false)),
      λ same. c.are_same_rows.ensures.1 (same_fronts first second front back (sym c.split_at.ensures.front_len)
          (same ∙ sym whole)).0,
    )
