-- Over edges that join more, a router reaches more.
use Rattle.std.proofs.Common.{◌≡◌, ℕ, true, [], ◌∷◌, Option, Some, None, is_some, refl, sym}
use Rattle.std.proofs.lemmas.Bool.{true≢false}
use Rattle.net_prefix.specs.declared.addr.Addr.{Addr}
use Rattle.igp_cost.specs.Walks.{Nodes, Edges, Steps, Leads, IsWalk, IsCost}
use Rattle.igp_cost.specs.Costs.{cost}
use Rattle.igp_cost.specs.Laws.{JoinAllOf, MoreEdgesReachMore}
use Rattle.igp_cost.proofs.Exact.{cost_exact}

module _ (nodes : Nodes) (old new : Edges) (joined : JoinAllOf old new) (r : Addr) where
  -- the walk by the same addresses
  led : (a x : Addr) (steps : Steps) → Leads nodes old r a steps x → (others : Steps) × Leads nodes new r a others x
  led a x [] walk = ([], walk)
  led a x ((b, m) ∷ steps) walk =
      let edge = joined a b m walk.1 in
      let on = led b x steps walk.2 in
      ((b, edge.0) ∷ on.0, (walk.0, edge.1, on.1))

  walk_of_cost : (x : Addr) (o : Option ℕ) → IsCost nodes old r x o → is_some o ≡ true → (steps : Steps)
      × IsWalk nodes old r x steps
  walk_of_cost x None is some = absurd (true≢false (sym some))
  walk_of_cost x (Some c) is some = (is.0, is.1.walk)

  cost_of_walk : (x : Addr) (o : Option ℕ) → IsCost nodes new r x o → (steps : Steps) →
      IsWalk nodes new r x steps → is_some o ≡ true
  cost_of_walk x None none steps walk = absurd (none steps walk)
  cost_of_walk x (Some c) is steps walk = refl

  reaches_more : (x : Addr) → is_some (cost nodes old r x) ≡ true → is_some (cost nodes new r x) ≡ true
  reaches_more x some =
      let walk = walk_of_cost x (cost nodes old r x) (cost_exact nodes old r x) some in
      let other = led r x walk.0 walk.1 in
      cost_of_walk x (cost nodes new r x) (cost_exact nodes new r x) other.0 other.1

pub more_edges : MoreEdgesReachMore
more_edges nodes old new joined r x some = reaches_more nodes old new joined r x some
