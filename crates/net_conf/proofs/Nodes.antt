-- The graph of a sound configuration.
use Rattle.std.proofs.Common.{◌≡◌, ℕ, ◌≤◌, Bool, true, false, IsTrue, List, [], ◌∷◌, Option, Some, None, All, is_some, option_map, if◌then◌else◌, refl, sym, ap, ◌∙◌, subst}
use Rattle.std.specs.List.{filter_map, cons_option}
use Rattle.std.specs.List.Sorted.{IsStrictlySortedBy}
use Rattle.std.specs.Map.{keys_of, values_of}
use Rattle.std.specs.BTreeMap.{is_at}
use Rattle.std.proofs.lemmas.List.{length-map}
use Rattle.std.proofs.lemmas.List.Elements.{All-nil, All-cons, All-head, All-tail}
use Rattle.std.proofs.lemmas.Map.Made.{lookup-map_values, keys_of-map_values}
use Rattle.net_prefix.specs.declared.addr.Addr.{Addr}
use Rattle.net_prefix.specs.Address.{addr_cmp}
use Rattle.igp_cost.specs.Metric.{IsMetric}
use Rattle.igp_cost.specs.Topology.{is_node, IsTopology}
use Rattle.igp_cost.specs.Limits.{most_nodes}
use Rattle.net_conf.specs.declared.tables.Ends.{Ends}
use Rattle.net_conf.specs.declared.tables.Link.{Link}
use Rattle.net_conf.specs.Configuration.{Configuration, node_at, has_node}
use Rattle.net_conf.specs.Costs.{nodes_of, edge_of, edges_of}
use Rattle.net_conf.specs.Configured.{HasEnds}
use Rattle.net_conf.specs.Kept.{IsSound}

pub some_mapped : {A B : Type 0} (f : A → B) (o : Option A) → is_some (option_map f o) ≡ is_some o
some_mapped f None = refl
some_mapped f (Some a) = refl

pub same_node : (c : Configuration) (a : Addr) → is_node (nodes_of c) a ≡ has_node c a
same_node c a = ap is_some (lookup-map_values (λ n. n.asn) (is_at (addr_cmp a)) c.nodes)
    ∙ some_mapped (λ n. n.asn) (node_at c a)

module _ (c : Configuration) where
  abbrev pub HasNodes : Addr × Addr × ℕ → Type 0
  HasNodes e = IsTrue (is_node (nodes_of c) e.0) × IsTrue (is_node (nodes_of c) e.1)

  kept_edge : (e : Ends × Link) (up : Bool) (edges : List (Addr × Addr × ℕ)) → HasEnds c e.0 → All HasNodes edges →
      All HasNodes (cons_option (if up then Some (e.0.low, e.0.high, e.1.metric) else None) edges)
  kept_edge e true edges has all = All-cons HasNodes (e.0.low, e.0.high, e.1.metric) edges (
    same_node c e.0.low ∙ has.0,
    same_node c e.0.high ∙ has.1,
  ) all
  kept_edge e false edges has all = all

  ends_hold : (links : List (Ends × Link)) → All (HasEnds c) (keys_of links) → All HasNodes (filter_map edge_of links)
  ends_hold [] all = All-nil HasNodes
  ends_hold (e ∷ links) all =
      kept_edge e e.1.up (filter_map edge_of links) (All-head (HasEnds c) e.0 (keys_of links) all)
      (ends_hold links (All-tail (HasEnds c) e.0 (keys_of links) all))

  pub ends_are_nodes : IsSound c → All HasNodes (edges_of c)
  ends_are_nodes sound = ends_hold c.links sound.links

  pub topology : IsSound c → IsStrictlySortedBy addr_cmp (keys_of c.nodes) → IsTopology (nodes_of c) (edges_of c)
  topology sound ascending = record {
    size = subst (λ n. n ≤ most_nodes) (sym (length-map c.nodes (λ e. (e.0, e.1.asn)))) sound.size;
    ascending = subst (IsStrictlySortedBy addr_cmp) (sym (keys_of-map_values (λ n. n.asn) c.nodes)) ascending;
    ends = ends_are_nodes sound;
  }

  pub sorted_nodes : IsStrictlySortedBy addr_cmp (keys_of c.nodes) → IsStrictlySortedBy addr_cmp (keys_of (nodes_of c))
  sorted_nodes ascending = subst (IsStrictlySortedBy addr_cmp) (sym (keys_of-map_values (λ n. n.asn) c.nodes)) ascending

  metrics_hold : (links : List (Ends × Link)) → All (λ l. IsMetric l.metric) (values_of links) →
      All (λ e. IsMetric e.2) (filter_map edge_of links)
  metrics_hold [] all = All-nil (λ e. IsMetric e.2)
  metrics_hold (e ∷ links) all = by e.1.up (All-head (λ l. IsMetric l.metric) e.1 (values_of links) all)
      (metrics_hold links (All-tail (λ l. IsMetric l.metric) e.1 (values_of links) all))
    where
      by : (up : Bool) → IsMetric e.1.metric → All (λ e. IsMetric e.2) (filter_map edge_of links) →
          All (λ e. IsMetric e.2) (cons_option (if up then Some (e.0.low, e.0.high, e.1.metric) else None)
          (filter_map edge_of links))
      by true metric rest = All-cons (λ e. IsMetric e.2) (
        e.0.low,
        e.0.high,
        e.1.metric,
      ) (filter_map edge_of links) metric rest
      by false metric rest = rest

  pub edge_metrics : IsSound c → All (λ e. IsMetric e.2) (edges_of c)
  edge_metrics sound = metrics_hold c.links sound.metrics
