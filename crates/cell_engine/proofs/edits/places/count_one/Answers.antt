use Rattle.std.proofs.Common.{◌≡◌, ◌+◌, unwrap_or, ap, ◌∙◌}
use Rattle.cell_engine.specs.Counts.{count_at}
use Rattle.cell_engine.proofs.Counts.{counted_one}
use Rattle.cell_engine.proofs.edits.places.count_one.Goals as goal

pub returns : goal.returns
returns c =
    let d = c.args.direction in
    let es = c.args.counts.now.entries in
    let before : c.unwrap_or-before.result ≡ count_at es d.from d.to = c.unwrap_or-before.ensures
    ∙ ap (λ o. unwrap_or o 0) (c.copied.ensures ∙ c.get.ensures.value) in
    λ f t. ap (λ l. count_at l f t) c.in_ok-insert.ensures.entries
    ∙ counted_one d es (c.unwrap_or-before.result + 1) (ap (λ n. n + 1) before) f t
