use Rattle.std.proofs.Common.{Some, sym, ap, ◌∙◌, rules}
use Rattle.net_prefix.specs.declared.addr.Addr.{Addr}
use Rattle.igp_cost.specs.declared.label.Label.{Label}
use Rattle.igp_cost.specs.Wired.{no_row}
use Rattle.igp_cost.proofs.Apart.{stands, above_all}
use Rattle.igp_cost.proofs.Exact.{same_addr}
use Rattle.igp_cost.proofs.Places.{lookup_at}
use Rattle.igp_cost.proofs.least_trees.tree.Tree.label_near.Goals as goal

pub returns : goal.returns
returns c =
    let rows = c.args.self.now.labels in
    let there = stands rows c.args.row (c.in-Some.addr, c.in-Some.label) (sym c.row.ensures.row ∙ c.in-Some.is) in
    let key = ap (λ (e : Addr × Label). e.0) there.1 ∙ same_addr _ _ (search rules) in
    sym (lookup_at no_row rows c.row.ensures.ascending c.args.row c.args.to there.0 key
    ∙ ap (λ (e : Addr × Label). Some e.1) there.1)

pub returns-then-is_below : goal.returns-then-is_below
returns-then-is_below c = sym (above_all c.args.self.now.labels c.args.to c.if-is_below.ensures)
