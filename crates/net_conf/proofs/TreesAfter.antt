-- The trees that are kept, after an edit that changes no edge.
use Rattle.std.proofs.Common.{◌≡◌, Bool, true, false, cond, ◌||◌, not, List, ◌∷◌, ◌++◌, map, Option, Some, None, IsTrue, option_map, is_some, if◌then◌else◌, refl, sym, ap, ◌∙◌, subst}
use Rattle.std.specs.List.Sorted.{IsStrictlySortedBy}
use Rattle.std.specs.Map.{keys_of}
use Rattle.std.specs.BTreeMap.{insert_entry, is_at}
use Rattle.std.proofs.lemmas.Bool.{true≢false}
use Rattle.std.proofs.lemmas.List.{map-append}
use Rattle.std.proofs.lemmas.Map.Made.{lookup-map_values}
use Rattle.std.proofs.lemmas.Option.{none-some, same_Some}
use Rattle.net_prefix.specs.declared.addr.Addr.{Addr}
use Rattle.net_prefix.specs.Address.{addr_cmp}
use Rattle.net_prefix.specs.Orders.{addr_exact, addr_total}
use Rattle.igp_cost.specs.Laws.{LoneNodeMovesNoTree}
use Rattle.igp_cost.specs.Topology.{is_node, IsTopology}
use Rattle.igp_cost.specs.Trees.{Reached, tree_of}
use Rattle.igp_cost.specs.Walks.{Nodes, asn_of}
use Rattle.net_conf.specs.declared.edit.Edit.{Edit}
use Rattle.net_conf.specs.declared.edit.Edit.TheVariants.{Router, Virtual, Link, Metric, Fail, Mend, Join, Stop, Start, Client, OwnNext, Cluster, MedAlways, Rule as AddRule, Clear, Origin, NoOrigin}
use Rattle.net_conf.specs.declared.tables.PolicySide.TheVariants.{Import, Export}
use Rattle.net_conf.specs.declared.tables.Node.{Node}
use Rattle.net_conf.specs.Configuration.{Configuration, node_at, has_node, ends_of, ends_cmp, is_end, ends_session, link_between}
use Rattle.net_conf.specs.Costs.{nodes_of, edges_of, costs_of}
use Rattle.net_conf.specs.Edits.{edited, refusal_of, tests_of, lacks_link, repeats_node, with_link_changed}
use Rattle.net_conf.specs.declared.tables.Link.{Link as TheLink}
use Rattle.net_conf.specs.Kept.{IsSound, IsLinked, IsJoined, AreKept, tree_kept, link_in, session_in}
use Rattle.net_conf.proofs.Inserted.{IsSplit, split, any_entry}
use Rattle.net_conf.proofs.KeptTrees.{equal_when, ends_exact, end_of_two, end_node, found_itself, or_right, kept_is, tree_there}
use Rattle.net_conf.proofs.Nodes.{same_node, topology, edge_metrics}
use Rattle.net_conf.proofs.Soundness.{all_fail}

-- the same ends of sessions, with the same costs
pub record TreesStay (c d : Configuration) : Type 0 where
  pub ends : (r : Addr) → ends_session d r ≡ ends_session c r
  pub costs : (r : Addr) → ends_session c r ≡ true → costs_of d r ≡ costs_of c r

pub still_kept : (c d : Configuration) → TreesStay c d → (r : Addr) → tree_kept d r ≡ tree_kept c r
still_kept c d stay r = ap (λ t. if t then Some (costs_of d r) else None) (stay.ends r) ∙ by (ends_session c r) refl
  where
    by : (ends : Bool) → ends_session c r ≡ ends → (if ends then Some (costs_of d r) else None)
        ≡ (if ends then Some (costs_of c r) else None)
    by true is = ap Some (stay.costs r is)
    by false is = refl

pub kept_still : (c d : Configuration) (trees : List (Addr × Reached)) → TreesStay c d →
    AreKept c trees → AreKept d trees
kept_still c d trees stay kept r = kept r ∙ sym (still_kept c d stay r)

pub costs_from_kept : (c d : Configuration) (r : Addr) → ends_session d r ≡ ends_session c r →
    tree_kept d r ≡ tree_kept c r → ends_session c r ≡ true → costs_of d r ≡ costs_of c r
costs_from_kept c d r ends same is = same_Some _ _ (sym (tree_there d r (ends ∙ is)) ∙ same ∙ tree_there c r is)

-- A NODE MORE

pub none_there : {X : Type 0} (o : Option X) → is_some o ≡ false → o ≡ None
none_there None is = refl
none_there (Some x) is = absurd (true≢false is)

module _ (law : LoneNodeMovesNoTree) (c : Configuration) (a : Addr) (n : Node) (sound : IsSound c)
    (sorted : IsStrictlySortedBy addr_cmp (keys_of c.nodes)) (new : has_node c a ≡ false) where
  abbrev with_node : Configuration
  with_node = record c { nodes = insert_entry addr_cmp c.nodes a n }

  abbrev numbered : List (Addr × Node) → Nodes
  numbered es = map (λ e. (e.0, e.1.asn)) es

  parts : IsSplit a n (node_at c a) c.nodes with_node.nodes
  parts = split addr_cmp addr_exact a n addr_total c.nodes sorted

  before_is : nodes_of c ≡ numbered parts.front ++ numbered parts.back
  before_is = ap numbered (parts.was.0 (none_there (node_at c a) new))
      ∙ map-append (λ e. (e.0, e.1.asn)) parts.front parts.back

  after_is : nodes_of with_node ≡ numbered parts.front ++ (a, n.asn) ∷ numbered parts.back
  after_is = ap numbered parts.is ∙ map-append (λ e. (e.0, e.1.asn)) parts.front ((a, n) ∷ parts.back)

  absent : asn_of (nodes_of c) a ≡ None
  absent = lookup-map_values (λ x. x.asn) (is_at (addr_cmp a)) c.nodes
      ∙ ap (option_map (λ x. x.asn)) (none_there (node_at c a) new)

  pub costs_with_node : (r : Addr) → has_node c r ≡ true → costs_of with_node r ≡ costs_of c r
  costs_with_node r node =
      ap (λ ns. tree_of ns (edges_of c) r) after_is
      ∙ law (numbered parts.front) (numbered parts.back) a n.asn (edges_of c)
      (subst (λ ns. IsTopology ns (edges_of c)) before_is (topology c sound sorted))
      (subst (λ ns. asn_of ns a ≡ None) before_is absent)
      (edge_metrics c sound) r
      (subst (λ ns. IsTrue (is_node ns r)) before_is (same_node c r ∙ node))
      ∙ ap (λ ns. tree_of ns (edges_of c) r) (sym before_is)

  stay_with_node : TreesStay c with_node
  stay_with_node = record { ends = λ r. refl; costs = λ r is. costs_with_node r (end_node c r sound is) }

-- an edit that is not refused adds no node that is there
pub node_is_new : (c : Configuration) (e : Edit) → refusal_of c e ≡ None → repeats_node c e ≡ false
unfolding refusal_of
node_is_new c e none = let all = all_fail (tests_of c e) none in all.1.0

-- an edit of neither a link nor a session
pub others_stay : LoneNodeMovesNoTree → (c : Configuration) (e : Edit) → IsSound c →
    IsStrictlySortedBy addr_cmp (keys_of c.nodes) → repeats_node c e ≡ false → link_in e ≡ None → session_in e ≡ None →
    TreesStay c (edited c e)
others_stay law c (Router a n) sound sorted new link session = stay_with_node law c a _ sound sorted new
others_stay law c (Virtual a n) sound sorted new link session = stay_with_node law c a _ sound sorted new
others_stay law c (Link a b m) sound sorted new link session = absurd (none-some _ (sym link))
others_stay law c (Metric a b m) sound sorted new link session = absurd (none-some _ (sym link))
others_stay law c (Fail a b) sound sorted new link session = absurd (none-some _ (sym link))
others_stay law c (Mend a b) sound sorted new link session = absurd (none-some _ (sym link))
others_stay law c (Join a b) sound sorted new link session = absurd (none-some _ (sym session))
others_stay law c (Stop a b) sound sorted new link session = absurd (none-some _ (sym session))
others_stay law c (Start a b) sound sorted new link session = absurd (none-some _ (sym session))
others_stay law c (Client a b on) sound sorted new link session = record { ends = λ r. refl; costs = λ r is. refl }
others_stay law c (OwnNext a b on) sound sorted new link session = record { ends = λ r. refl; costs = λ r is. refl }
others_stay law c (Cluster a id) sound sorted new link session = record { ends = λ r. refl; costs = λ r is. refl }
others_stay law c (MedAlways a on) sound sorted new link session = record { ends = λ r. refl; costs = λ r is. refl }
others_stay law c (AddRule a b Import rule) sound sorted new link session =
    record { ends = λ r. refl; costs = λ r is. refl }
others_stay law c (AddRule a b Export rule) sound sorted new link session =
    record { ends = λ r. refl; costs = λ r is. refl }
others_stay law c (Clear a b Import) sound sorted new link session = record { ends = λ r. refl; costs = λ r is. refl }
others_stay law c (Clear a b Export) sound sorted new link session = record { ends = λ r. refl; costs = λ r is. refl }
others_stay law c (Origin a p) sound sorted new link session = record { ends = λ r. refl; costs = λ r is. refl }
others_stay law c (NoOrigin a p) sound sorted new link session = record { ends = λ r. refl; costs = λ r is. refl }

-- A LINK

link_there : (c : Configuration) (e : Edit) → refusal_of c e ≡ None → lacks_link c e ≡ false
unfolding refusal_of
link_there c e none = let all = all_fail (tests_of c e) none in all.1.1.1.1.1.0

changed_link : (c : Configuration) (a b : Addr) (change : TheLink → TheLink) (link : Option TheLink) →
    link_between c a b ≡ link → not (is_some (link_between c a b)) ≡ false →
    IsLinked c (with_link_changed c a b change link) a b
changed_link c a b change None is lacks = absurd (true≢false (sym (ap (λ o. not (is_some o)) is) ∙ lacks))
changed_link c a b change (Some link) is lacks = record { link = change link; is = refl }

turn_linked : {c d : Configuration} {p q : Addr × Addr} → p ≡ q → IsLinked c d p.0 p.1 → IsLinked c d q.0 q.1
turn_linked {c} {d} is linked = subst (λ p. IsLinked c d p.0 p.1) is linked

-- an edit of a link makes the configuration with a link of the two
linked_by : (c : Configuration) (e : Edit) (x y : Addr) → lacks_link c e ≡ false → link_in e ≡ Some (x, y) →
    IsLinked c (edited c e) x y
linked_by c (Link a b m) x y lacks is =
    turn_linked (same_Some _ _ is) (record { link = record { metric = m; up = true }; is = refl })
linked_by c (Metric a b m) x y lacks is =
    turn_linked (same_Some _ _ is) (changed_link c a b _ (link_between c a b) refl lacks)
linked_by c (Fail a b) x y lacks is =
    turn_linked (same_Some _ _ is) (changed_link c a b _ (link_between c a b) refl lacks)
linked_by c (Mend a b) x y lacks is =
    turn_linked (same_Some _ _ is) (changed_link c a b _ (link_between c a b) refl lacks)
linked_by c _ x y lacks is = absurd (none-some _ is)

pub linked_after : (c : Configuration) (e : Edit) (x y : Addr) → refusal_of c e ≡ None → link_in e ≡ Some (x, y) →
    IsLinked c (edited c e) x y
linked_after c e x y none is = linked_by c e x y (link_there c e none) is

-- where the edges stay, so do the trees
pub stay_with_link : (c d : Configuration) (a b : Addr) → IsLinked c d a b → edges_of d ≡ edges_of c → TreesStay c d
stay_with_link c d a b linked same = record {
  ends = λ r. ap (λ x. ends_session x r) linked.is;
  costs = λ r is. ap (λ es. tree_of (nodes_of d) es r) same ∙ ap (λ x. tree_of (nodes_of x) (edges_of c) r) linked.is;
}

-- the trees of the changed edges are those that are kept
pub kept_with_link : (c d : Configuration) (a b : Addr) → IsLinked c d a b → (r : Addr) →
    option_map (λ t. tree_of (nodes_of d) (edges_of d) r) (tree_kept c r) ≡ tree_kept d r
kept_with_link c d a b linked r = by (ends_session c r)
    ∙ ap (λ x. if ends_session x r then Some (costs_of d r) else None) (sym linked.is)
  where
    by : (ends : Bool) → option_map (λ t. tree_of (nodes_of d) (edges_of d) r) (if ends then Some (costs_of c r)
        else None) ≡ (if ends then Some (costs_of d r) else None)
    by true = refl
    by false = refl

-- A SESSION

-- what is put in at an address counts there alone
pub at_one : (f g : Addr → Reached) (r b : Addr) → f b ≡ g b → (o : Option Reached) →
    cond (is_at (addr_cmp r) b) (Some (f r)) o ≡ cond (is_at (addr_cmp r) b) (Some (g r)) o
at_one f g r b same o = by (is_at (addr_cmp r) b) refl
  where
    by : (t : Bool) → is_at (addr_cmp r) b ≡ t → cond t (Some (f r)) o ≡ cond t (Some (g r)) o
    by true at = ap Some (subst (λ x. f x ≡ g x) (sym (addr_exact r b (equal_when (addr_cmp r b) at))) same)
    by false at = refl

turn_joined : {c d : Configuration} {p q : Addr × Addr} → p ≡ q → IsJoined c d p.0 p.1 → IsJoined c d q.0 q.1
turn_joined {c} {d} is joined = subst (λ p. IsJoined c d p.0 p.1) is joined

-- an edit of a session makes the configuration with a session of the two
pub joined_after : (c : Configuration) (e : Edit) (x y : Addr) → session_in e ≡ Some (x, y) →
    IsJoined c (edited c e) x y
joined_after c (Join a b) x y is = turn_joined (same_Some _ _ is) (record { enabled = true; is = refl })
joined_after c (Stop a b) x y is = turn_joined (same_Some _ _ is) (record { enabled = false; is = refl })
joined_after c (Start a b) x y is = turn_joined (same_Some _ _ is) (record { enabled = true; is = refl })
joined_after c _ x y is = absurd (none-some _ is)

module _ (c d : Configuration) (a b : Addr) (joined : IsJoined c d a b) where
  pub ends_joined : (r : Addr) → ends_session d r ≡ ((is_at (addr_cmp r) a || is_at (addr_cmp r) b) || ends_session c r)
  ends_joined r =
      ap (λ x. ends_session x r) joined.is
      ∙ any_entry ends_cmp ends_exact (ends_of a b) joined.enabled (is_end r) c.sessions
      ∙ ap (λ t. t || ends_session c r) (end_of_two r a b)

  pub costs_joined : (r : Addr) → costs_of d r ≡ costs_of c r
  costs_joined r = ap (λ x. costs_of x r) joined.is

  pub kept_joined : (r : Addr) →
      cond (is_at (addr_cmp r) b) (Some (costs_of d r))
      (cond (is_at (addr_cmp r) a) (Some (costs_of d r)) (tree_kept c r)) ≡ tree_kept d r
  kept_joined r = by (is_at (addr_cmp r) b) (is_at (addr_cmp r) a) (ends_session c r)
      ∙ ap (λ t. if t then Some (costs_of d r) else None) (sym (ends_joined r))
    where
      by : (t u ends : Bool) →
          cond t (Some (costs_of d r)) (cond u (Some (costs_of d r)) (if ends then Some (costs_of c r) else None))
          ≡ (if (u || t) || ends then Some (costs_of d r) else None)
      by true true ends = refl
      by true false ends = refl
      by false true ends = refl
      by false false true = ap Some (sym (costs_joined r))
      by false false false = refl

  pub stay_joined : ends_session c a ≡ true → ends_session c b ≡ true → TreesStay c d
  stay_joined first second = record {
    ends = λ r. ends_joined r
        ∙ by r (is_at (addr_cmp r) a) (is_at (addr_cmp r) b) refl refl;
    costs = λ r is. costs_joined r;
  }
    where
      there : (r x : Addr) → is_at (addr_cmp r) x ≡ true → ends_session c x ≡ true → true ≡ ends_session c r
      there r x is ends = sym (ap (ends_session c) (addr_exact r x (equal_when (addr_cmp r x) is)) ∙ ends)

      by : (r : Addr) (t u : Bool) → is_at (addr_cmp r) a ≡ t → is_at (addr_cmp r) b ≡ u →
          ((t || u) || ends_session c r) ≡ ends_session c r
      by r true u is is' = there r a is first
      by r false true is is' = there r b is' second
      by r false false is is' = refl

  pub first_joined : ends_session d a ≡ true
  first_joined = ends_joined a ∙ ap (λ t. (t || is_at (addr_cmp a) b) || ends_session c a) (found_itself a)

  pub second_joined : ends_session d b ≡ true
  second_joined = ends_joined b ∙ ap (λ t. t || ends_session c b) (or_right (is_at (addr_cmp b) a) (found_itself b))

  -- a tree that is kept is right still
  pub right_still : (r : Addr) (t : Reached) → tree_kept c r ≡ Some t → t ≡ costs_of d r
  right_still r t kept = (kept_is c r t kept).1 ∙ sym (costs_joined r)

  pub right_then : (r : Addr) (t : Reached) (u : Bool) → cond u (Some (costs_of d r)) (tree_kept c r) ≡ Some t →
      t ≡ costs_of d r
  right_then r t true is = sym (same_Some _ _ is)
  right_then r t false is = right_still r t is

-- where no link is touched, the costs stay
pub costs_stay : LoneNodeMovesNoTree → (c : Configuration) (e : Edit) → IsSound c →
    IsStrictlySortedBy addr_cmp (keys_of c.nodes) → refusal_of c e ≡ None → link_in e ≡ None → (r : Addr) →
    ends_session c r ≡ true → costs_of (edited c e) r ≡ costs_of c r
costs_stay law c e sound sorted none link r ends = by (session_in e) refl
  where
    by : (o : Option (Addr × Addr)) → session_in e ≡ o → costs_of (edited c e) r ≡ costs_of c r
    by None is = (others_stay law c e sound sorted (node_is_new c e none) link is).costs r ends
    by (Some p) is = costs_joined c (edited c e) p.0 p.1 (joined_after c e p.0 p.1 is) r
