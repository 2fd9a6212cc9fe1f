-- Trees that a change may move are such trees in any order.
use Rattle.std.proofs.Common.{◌≡◌, List, ◌∙◌}
use Rattle.std.proofs.lemmas.List.Sorted.{All-permutation, IsPermutation-map, list_any-IsPermutation}
use Rattle.std.specs.List.Sorted.{IsPermutation}
use Rattle.std.specs.BTreeMap.{is_at}
use Rattle.net_prefix.specs.declared.addr.Addr.{Addr}
use Rattle.net_prefix.specs.Address.{addr_cmp}
use Rattle.igp_cost.specs.Topology.{Topology}
use Rattle.igp_cost.specs.Trees.{Reached, source_of}
use Rattle.net_conf.specs.Concerned.{is_among}
use Rattle.net_conf.specs.MovedTrees.{MovedTree, AreMoved, owners}

pub moved_spread : (graph : Topology) (old : List (Addr × Reached)) (xs ys : List MovedTree) → IsPermutation xs ys →
    AreMoved graph old xs → AreMoved graph old ys
moved_spread graph old xs ys same are =
    let among : (r : Addr) → is_among r (owners xs) ≡ is_among r (owners ys) =
    λ r. list_any-IsPermutation (is_at (addr_cmp r)) (owners xs) (owners ys)
    (IsPermutation-map (λ (x : MovedTree). source_of x.tree) xs ys same) in
    record {
      graphs = All-permutation (λ (x : MovedTree). x.graph ≡ graph) xs ys same are.graphs;
      there = λ r is. are.there r (among r ∙ is);
      others = λ r off. are.others r (among r ∙ off);
    }
