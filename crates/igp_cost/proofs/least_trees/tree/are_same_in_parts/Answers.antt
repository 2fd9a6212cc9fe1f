use Rattle.std.proofs.Common.{◌≡◌, ◌++◌, List, length, sym, ap, ◌∙◌, append_assoc}
use Rattle.std.proofs.lemmas.Bool.{true≢false}
use Rattle.net_prefix.specs.declared.addr.Addr.{Addr}
use Rattle.igp_cost.specs.declared.label.Label.{Label}
use Rattle.igp_cost.proofs.Apart.{same_fronts, same_joined, front_and_rest}
use Rattle.igp_cost.proofs.least_trees.tree.are_same_in_parts.Goals as goal

pub returns-then-are_same_rows : goal.returns-then-are_same_rows
returns-then-are_same_rows c =
    let last = c.args.last.now in
    let others = c.args.others.now in
    let later = c.args.later.now in
    let front = c.split_at.result.0.now in
    let middle = c.split_at.result.1.now in
    let whole : front ++ (middle ++ last) ≡ c.args.rows.now ++ last =
    sym (append_assoc front middle last)
    ∙ ap (λ l. l ++ last) (front_and_rest c.args.rows.now front middle (length others) c.split_at.ensures.front
    c.split_at.ensures.back) in
    let is_front : front ≡ others = c.are_same_rows.ensures.0 c.if-are_same_rows.true in (
      λ ever. sym whole ∙ same_joined front (middle ++ last) others later is_front (c.are_joined.ensures.0 ever),
      λ same. c.are_joined.ensures.1
          (same_fronts front (middle ++ last) others later (ap (λ (l : List (Addr × Label)). length l) is_front) (whole
          ∙ same)).1,
    )

pub returns-else-are_same_rows : goal.returns-else-are_same_rows
returns-else-are_same_rows c =
    let last = c.args.last.now in
    let others = c.args.others.now in
    let later = c.args.later.now in
    let front = c.split_at.result.0.now in
    let middle = c.split_at.result.1.now in
    let whole : front ++ (middle ++ last) ≡ c.args.rows.now ++ last =
    sym (append_assoc front middle last)
    ∙ ap (λ l. l ++ last) (front_and_rest c.args.rows.now front middle (length others) c.split_at.ensures.front
    c.split_at.ensures.back) in (
      λ ever. absurd (true≢false (sym ever ∙ c.if-are_same_rows.false)),
      λ same. c.are_same_rows.ensures.1
          (same_fronts front (middle ++ last) others later c.split_at.ensures.front_len (whole ∙ same)).0,
    )
