-- Where all routes have one NEXT_HOP, whose cost stays, and only costs move, no cell moves.
use Rattle.std.proofs.Common.{◌≡◌, Bool, false, cond, ◌&&◌, ◌||◌, List, [], ◌∷◌, refl, ap, ◌∙◌}
use Rattle.std.specs.List.{All, list_any}
use Rattle.std.proofs.lemmas.List.Elements.{All-head, All-tail}
use Rattle.net_prefix.specs.declared.addr.Addr.{Addr}
use Rattle.net_prefix.specs.Prefix.{Prefix}
use Rattle.path_attr.specs.declared.attr.Attr.{Attr}
use Rattle.std.specs.Option.{option_map_or}
use Rattle.net_conf.specs.Sites.{session_with}
use Rattle.cell_engine.specs.SiteMoves.{SitePair, moves_cost_to, is_route_moved, counts_cost, has_route, is_moved, MovesCostsAlone}
use Rattle.reference_machine.specs.Decision.{is_originated}

module _ (s : SitePair) (p : Prefix) (a : Addr) (stays : moves_cost_to s a ≡ false) where
  none_moves : (routes : List (Addr × Attr)) → All (λ e. e.1.next ≡ a) routes →
      list_any (is_route_moved s p) routes ≡ false
  none_moves [] all = refl
  none_moves (e ∷ es) all =
      let counts : Bool = option_map_or (counts_cost s.old p e.1) (session_with s.old e.0) false in
      (λ i. ((ap (moves_cost_to s) (All-head (λ (x : Addr × Attr). x.1.next ≡ a) e es all) ∙ stays) i && counts)
      || none_moves es (All-tail (λ (x : Addr × Attr). x.1.next ≡ a) e es all) i)

  -- no cell of such routes
  pub none_by_hop : MovesCostsAlone s → (routes : List (Addr × Attr)) → All (λ e. e.1.next ≡ a) routes →
      is_moved s p routes ≡ false
  none_by_hop alone routes all = λ i. cond (alone.facts i) (alone.origins p i || none_moves routes all i)
      (has_route s.old p routes || is_originated s.new p)

-- nor one of no routes
pub none_moved : (s : SitePair) (p : Prefix) → MovesCostsAlone s → is_moved s p [] ≡ false
none_moved s p alone = λ i. cond (alone.facts i) (alone.origins p i || false)
    (has_route s.old p [] || is_originated s.new p)
