use Rattle.std.proofs.Common.{Ok, Err, rules, sym, ap}
use Rattle.std.proofs.lemmas.List.Sorted.{answers_always}
use Rattle.net_prefix.specs.declared.addr.Addr.{Addr}
use Rattle.igp_cost.specs.declared.label.Label.{Label}
use Rattle.igp_cost.specs.Wired.{no_row}
use Rattle.igp_cost.proofs.Exact.{same_addr}
use Rattle.igp_cost.proofs.Places.{searched, lookup_at, lookup_none}
use Rattle.igp_cost.proofs.least_trees.tree.label_among.Goals as goal

pub returns-in-Ok : goal.returns-in-Ok
returns-in-Ok c =
    let rows = c.args.rows.now in
    let by_key = c.in-Ok.ensures.position (λ row. row.0.0) (answers_always _ _ _ (λ f a r g called. search rules)) in
    let place = (searched (λ (row : Addr × Label). row.0.0) no_row rows c.requires c.args.to.0
    (Ok c.in-Ok.at) c.in-Ok.ensures.bound by_key).found in
    sym (lookup_at no_row rows c.requires c.in-Ok.at c.args.to place.0 (same_addr _ _ place.1))

pub returns-in-Err : goal.returns-in-Err
returns-in-Err c =
    let rows = c.args.rows.now in
    let by_key = c.in-Err.ensures.position (λ row. row.0.0) (answers_always _ _ _ (λ f a r g called. search rules)) in
    let none = (searched (λ (row : Addr × Label). row.0.0) no_row rows c.requires c.args.to.0
    (Err c.in-Err.field-0) c.in-Err.ensures.bound by_key).absent in
    sym (lookup_none no_row rows c.args.to (λ i lt same. none i lt (ap (λ (y : Addr). y.0) same)))
