use Rattle.std.proofs.Common.{ℕ, Ok, Err, rules, ap}
use Rattle.std.specs.Prelude.{is_some}
use Rattle.std.proofs.lemmas.List.Sorted.{answers_always}
use Rattle.net_prefix.specs.declared.addr.Addr.{Addr}
use Rattle.igp_cost.specs.Labels.{nowhere}
use Rattle.igp_cost.proofs.Exact.{same_addr}
use Rattle.igp_cost.proofs.Places.{searched, lookup_at, lookup_none}
use Rattle.igp_cost.proofs.least_trees.conditions.place_of.Goals as goal

pub returns-in-Ok : goal.returns-in-Ok
returns-in-Ok c =
    let by_key = c.in-Ok.ensures.position (λ node. node.0.0) (answers_always _ _ _ (λ f a r g called. search rules)) in
    let place = (searched (λ (node : Addr × ℕ). node.0.0) nowhere c.args.nodes.now c.requires c.args.addr.0
    (Ok c.in-Ok.at) c.in-Ok.ensures.bound by_key).found in
    let same = same_addr _ _ place.1 in
    record {
      place = record { within = place.0; same = same };
      node = ap is_some (lookup_at nowhere c.args.nodes.now c.requires c.in-Ok.at c.args.addr place.0 same);
    }

pub returns-in-Err : goal.returns-in-Err
returns-in-Err c =
    let by_key = c.in-Err.ensures.position (λ node. node.0.0) (answers_always _ _ _ (λ f a r g called. search rules)) in
    let none = (searched (λ (node : Addr × ℕ). node.0.0) nowhere c.args.nodes.now c.requires c.args.addr.0
    (Err c.in-Err.field-0) c.in-Err.ensures.bound by_key).absent in
    let absent = lookup_none nowhere c.args.nodes.now c.args.addr
    (λ i lt same. none i lt (ap (λ (y : Addr). y.0) same)) in
    record { place = absent; node = ap is_some absent }
