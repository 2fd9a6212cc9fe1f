-- Labels of nodes by their places in the list of nodes, and what holds of them while they are improved. No public
-- contract cites this file.
use Rattle.std.specs.Prelude.{◌≡◌, ℕ, ◌+◌, ◌*◌, ◌^◌, ◌<◌, ◌≤◌, ◌⊎◌, ◌==◌, List, length, Contains, if◌then◌else◌, slice_index_or, Some, None, Option, IfSome, IsSomeAnd, sum_by, All}
use Rattle.std.specs.declared.cmp.Reverse.{Reverse}
use Rattle.net_prefix.specs.declared.addr.Addr.{Addr}
use Rattle.igp_cost.specs.declared.label.Label.{Label}
use Rattle.igp_cost.specs.declared.least_trees.link.Link.{Link}
use Rattle.igp_cost.specs.Metric.{IsMetric}
use Rattle.igp_cost.specs.Walks.{Nodes}

-- what is read past the nodes
abbrev pub nowhere : Addr × ℕ
nowhere = (record { 0 = 0 }, 0)

abbrev pub addr_at : Nodes → ℕ → Addr
addr_at nodes i = let node = slice_index_or nodes i nowhere in node.0

abbrev pub asn_at : Nodes → ℕ → ℕ
asn_at nodes i = let node = slice_index_or nodes i nowhere in node.1

-- a place in the list of nodes
abbrev pub IsPlace : Nodes → ℕ → Type 0
IsPlace nodes v = v < length nodes

abbrev pub ArePlaces : Nodes → List ℕ → Type 0
ArePlaces nodes places = All (λ p. p < length nodes) places

-- a place in the list of links
abbrev pub IsLinkPlace : List Link → ℕ → Type 0
IsLinkPlace links k = k < length links

abbrev pub AreLinkPlaces : List Link → List ℕ → Type 0
AreLinkPlaces links places = All (λ k. k < length links) places

-- what is queued, by cost and hop, is a place
abbrev pub AreQueued : Nodes → List (Reverse (ℕ × Addr × ℕ)) → Type 0
AreQueued nodes entries = All (λ (e : Reverse (ℕ × Addr × ℕ)). e.0.2 < length nodes) entries

-- an edge from place to place, with its metric
abbrev pub JoinsPlaces : Nodes → ℕ → ℕ → ℕ → Type 0
JoinsPlaces nodes v w m = (v < length nodes) × (w < length nodes) × IsMetric m

-- one item for each node
abbrev pub HasOneEach : {A : Type 0} → Nodes → List A → Type 0
HasOneEach nodes items = length items ≡ length nodes

abbrev pub Labels : Type 0
Labels = List (Option Label)

abbrev pub label_at : Labels → ℕ → Option Label
label_at labels i = slice_index_or labels i None

-- the label that a link offers to its end, from a label at its start
abbrev pub extended : Nodes → ℕ → Link → Option Label → Option Label
extended nodes s link None = None
extended nodes s link (Some b) =
    if asn_at nodes link.from == asn_at nodes s
    then Some (record { cost = b.cost + link.metric; hop = if link.from == s then addr_at nodes link.to else b.hop })
    else None

abbrev pub extension : Nodes → ℕ → Labels → Link → Option Label
extension nodes s labels link = extended nodes s link (label_at labels link.from)

-- a is at least as good as b
pub record IsNotAfter (a b : Label) : Type 0 where
  pub cost : a.cost ≤ b.cost
  pub hop : a.cost ≡ b.cost → a.hop.0 ≤ b.hop.0

-- a is better than what is there
abbrev pub IsBefore : Label → Option Label → Type 0
IsBefore a None = Unit {0}
IsBefore a (Some b) = (a.cost < b.cost) ⊎ ((a.cost ≡ b.cost) × (a.hop.0 < b.hop.0))

-- the link offers its end nothing better
abbrev pub IsClosedAt : Nodes → ℕ → Labels → Link → Type 0
IsClosedAt nodes s labels link =
    IfSome (extension nodes s labels link) (λ e. IsSomeAnd (label_at labels link.to) (λ b. IsNotAfter b e))

abbrev pub IsClosed : Nodes → ℕ → List Link → Labels → Type 0
IsClosed nodes s links labels = (link : Link) → Contains links link → IsClosedAt nodes s labels link

-- some link into v offers l or better
pub record IsBacked (nodes : Nodes) (s : ℕ) (links : List Link) (labels : Labels) (v : ℕ) (l : Label) : Type 0 where
  pub link : Link
  pub among : Contains links link
  pub ends : link.to ≡ v
  pub offer : Label
  pub offered : extension nodes s labels link ≡ Some offer
  pub enough : IsNotAfter offer l

-- how many nodes have a label
abbrev pub one : Option Label → ℕ
one None = 0
one (Some l) = 1

abbrev pub reached : Labels → ℕ
reached labels = sum_by one labels

-- the costs are bounded by how many nodes have a label
pub record IsBounded (nodes : Nodes) (labels : Labels) : Type 0 where
  pub same_length : length labels ≡ length nodes
  pub bounded : (v : ℕ) (l : Label) → label_at labels v ≡ Some l → l.cost ≤ 268435456 + 65535 * reached labels

-- each label but the source's is backed
abbrev pub AllBacked : Nodes → ℕ → List Link → Labels → Type 0
AllBacked nodes s links labels = (v : ℕ) (l : Label) → label_at labels v ≡ Some l → (v ≡ s)
    ⊎ IsBacked nodes s links labels v l

-- the source is at no cost
abbrev pub Starts : Nodes → ℕ → Labels → Type 0
Starts nodes s labels = label_at labels s ≡ Some (record { cost = 0; hop = addr_at nodes s })

-- labels with an edge behind each but the source's own, and costs that are bounded by how many nodes have one
pub record AreBackedLabels (nodes : Nodes) (s : ℕ) (links : List Link) (labels : Labels) : Type 0 where
  pub same_length : length labels ≡ length nodes
  pub start : Starts nodes s labels
  pub backed : AllBacked nodes s links labels
  pub bounded : (v : ℕ) (l : Label) → label_at labels v ≡ Some l → l.cost ≤ 268435456 + 65535 * reached labels

-- the ends of the links are nodes, and their metrics are metrics
abbrev pub IsWithin : Nodes → List Link → Type 0
IsWithin nodes links = All (λ l. JoinsPlaces nodes l.from l.to l.metric) links

-- what falls with each improvement
abbrev pub weight : Option Label → ℕ
weight None = 18446744073709551616
weight (Some l) = l.cost * 4294967296 + l.hop.0

abbrev pub weight_of : Labels → ℕ
weight_of labels = sum_by weight labels

-- the link at a place offers its end nothing better
abbrev pub ClosesAt : Nodes → ℕ → List Link → Labels → ℕ → Type 0
ClosesAt nodes s links labels at = (link : Link) → slice_index_or links at link ≡ link → IsClosedAt nodes s labels link

-- a link stands from the start of the node that it leaves on, and before the next one
abbrev pub StandsByStart : Nodes → List Link → List ℕ → Type 0
StandsByStart nodes links starts = (v k : ℕ) (link : Link) → v < length nodes → k < length links →
    slice_index_or links k link ≡ link → link.from ≡ v → (slice_index_or starts v 0 ≤ k)
    × (k < slice_index_or starts (v + 1) 0)

-- where the links of each node start, and where they all end
pub record IsIndexed (nodes : Nodes) (links : List Link) (starts : List ℕ) : Type 0 where
  pub count : length starts ≡ length nodes + 1
  pub within : All (λ s. s ≤ length links) starts
  pub each : StandsByStart nodes links starts

-- each label is within a limit, from which sums still fit
abbrev pub AreLimited : Labels → Type 0
AreLimited labels = (v : ℕ) (l : Label) → label_at labels v ≡ Some l → l.cost ≤ 268435456

-- a label or none for each node, within the limit
abbrev pub AreUsable : Nodes → Labels → Type 0
AreUsable nodes labels = HasOneEach nodes labels × AreLimited labels

-- a metric more still fits the number of a cost
abbrev pub TakesMetric : ℕ → Type 0
TakesMetric cost = cost + 65535 < 2 ^ 32

-- the link offers its end a label at least as good as the one there
pub record Backs (nodes : Nodes) (s : ℕ) (labels : Labels) (link : Link) : Type 0 where
  pub offer : Label
  pub offered : extension nodes s labels link ≡ Some offer
  pub label : Label
  pub there : label_at labels link.to ≡ Some label
  pub enough : IsNotAfter offer label
