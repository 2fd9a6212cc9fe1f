-- Who is in the AS of one of two, and the edges that lead to them: the trees of all others hang on no link of the two.
-- No public contract cites this file.
use Rattle.std.specs.Prelude.{◌≡◌, ℕ, ◌≤◌, Bool, true, ◌||◌, List, ◌++◌, length, map, filter, Option, Some, None, option_map, if◌then◌else◌}
use Rattle.std.specs.List.{filter_map}
use Rattle.std.specs.List.Sorted.{IsStrictlySortedBy}
use Rattle.std.specs.Map.{keys_of, lookup}
use Rattle.std.specs.BTreeMap.{is_at}
use Rattle.net_prefix.specs.declared.addr.Addr.{Addr}
use Rattle.net_prefix.specs.Address.{addr_cmp}
use Rattle.igp_cost.specs.Topology.{is_node}
use Rattle.igp_cost.specs.Trees.{Reached}
use Rattle.igp_cost.specs.Walks.{Nodes, Edges, asn_of, is_one_number}
use Rattle.igp_cost.specs.declared.change.Change.{Change}
use Rattle.net_conf.specs.declared.tables.Ends.{Ends}
use Rattle.net_conf.specs.declared.tables.Link.{Link}
use Rattle.net_conf.specs.declared.tables.Node.{Node}
use Rattle.net_conf.specs.Configuration.{Configuration, as_of}
use Rattle.net_conf.specs.Concerned.{is_among}
use Rattle.net_conf.specs.Costs.{edge_of}
use Rattle.net_conf.specs.Kept.{WasTreeOf}

-- the router or peer is in the AS of one of the two
abbrev pub is_member : Configuration → Addr → Addr → Node → Bool
is_member c a b n = is_one_number (as_of c a) (Some n.asn) || is_one_number (as_of c b) (Some n.asn)

-- those that are, in order
abbrev pub members_of : Configuration → Addr → Addr → List Addr
members_of c a b = map (λ e. e.0) (filter (λ e. is_member c a b e.1) c.nodes)

-- one of these is an end of the edge
abbrev pub leads_to : List Addr → (Addr × Addr × ℕ) → Bool
leads_to rs e = is_among e.0 rs || is_among e.1 rs

-- the edges of which one of these is an end
abbrev pub edges_to : List Addr → Edges → Edges
edges_to rs edges = filter (leads_to rs) edges

-- the link's edge, if it is up and leads to one of these
abbrev pub edge_near : List Addr → Ends × Link → Option (Addr × Addr × ℕ)
edge_near rs e = if is_among e.0.low rs || is_among e.0.high rs then edge_of e else None

-- these and the ends of the edges
abbrev pub near : List Addr → Edges → List Addr
near rs edges = (rs ++ map (λ e. e.0) edges) ++ map (λ e. e.1) edges

-- the address with its AS, if it is a node
abbrev pub with_as : Configuration → Addr → Option (Addr × ℕ)
with_as c x = option_map (λ n. (x, n)) (as_of c x)

-- the nodes of these addresses, each with its AS
abbrev pub nodes_at : Configuration → List Addr → Nodes
nodes_at c xs = filter_map (with_as c) xs

-- nodes of the configuration, in order and each in its AS, and among them those of these addresses
pub record AreNear (c : Configuration) (xs : List Addr) (nodes : Nodes) : Type 0 where
  pub size : length nodes ≤ length c.nodes
  pub ascending : IsStrictlySortedBy addr_cmp (keys_of nodes)
  pub known : (x : Addr) → is_node nodes x ≡ true → asn_of nodes x ≡ as_of c x
  pub these : (x : Addr) → is_among x xs ≡ true → asn_of nodes x ≡ as_of c x

-- the trees of those of these that have one, each at its address
abbrev pub trees_of : List Addr → List (Addr × Reached) → List (Addr × Reached)
trees_of rs trees = filter_map (λ r. option_map (λ t. (r, t)) (lookup (is_at (addr_cmp r)) trees)) rs

-- the tree of each of these is from before the change
abbrev pub WereTreesOf : List Addr → Change → Nodes → Edges → List (Addr × Reached) → Type 0
WereTreesOf rs change nodes edges trees = (r : Addr) (t : Reached) → is_among r rs ≡ true →
    lookup (is_at (addr_cmp r)) trees ≡ Some t → WasTreeOf change nodes edges r t
