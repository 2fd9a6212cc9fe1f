-- Where a link does not go down, no session goes down with it; where it does not come up, none comes up.
use Rattle.std.proofs.Common.{◌≡◌, ℕ, Bool, true, false, not, ◌&&◌, List, map, Option, Some, None, option_map, is_some, if◌then◌else◌, refl, sym, ap, ◌∙◌}
use Rattle.std.specs.Option.{unwrap_or}
use Rattle.std.specs.Map.{keys_of, lookup}
use Rattle.std.specs.List.Sorted.{IsStrictlySortedBy}
use Rattle.std.specs.BTreeMap.{insert_entry, is_at}
use Rattle.std.proofs.lemmas.Bool.{true≢false}
use Rattle.net_prefix.specs.declared.addr.Addr.{Addr}
use Rattle.net_prefix.specs.Address.{addr_cmp}
use Rattle.path_attr.specs.Number.{same_number}
use Rattle.igp_cost.specs.Costs.{cost as least_cost}
use Rattle.igp_cost.specs.Laws.{CostsAreLeast, CostsAreOne, TreeOfIsATree, MoreEdgesReachMore, JoinAllOf}
use Rattle.net_conf.specs.declared.tables.Ends.{Ends}
use Rattle.net_conf.specs.declared.tables.Link.{Link as TheLink}
use Rattle.net_conf.specs.declared.tables.Node.{Node}
use Rattle.net_conf.specs.Configuration.{Configuration, has_node, is_external, has_link_up, ends_of, ends_cmp, session_between, has_session}
use Rattle.net_conf.specs.Costs.{nodes_of, edges_of, cost, session_up, is_connected}
use Rattle.net_conf.specs.Kept.{IsSound, IsLinked, NoneGoesDown}
use Rattle.net_conf.proofs.EdgeChange.{edges_join, edges_joined}
use Rattle.net_conf.proofs.KeptTrees.{ends_exact, same_ends, end_node, session_ends, session_turned}
use Rattle.net_conf.proofs.Nodes.{same_node, topology, edge_metrics}
use Rattle.net_conf.proofs.Unseen.{lookup_with}

-- the laws of costs
pub record HasLaws : Type 0 where
  pub more : MoreEdgesReachMore
  pub least : CostsAreLeast
  pub one : CostsAreOne
  pub trees : TreeOfIsATree

-- what holds of a configuration whose tables are in order
pub record IsOrderly (c : Configuration) : Type 0 where
  pub sound : IsSound c
  pub nodes : IsStrictlySortedBy addr_cmp (keys_of c.nodes)

-- the one has all that the other has of nodes and sessions, no less is joined in it, and what links are up are up in it
pub record Keeps (c d : Configuration) : Type 0 where
  pub nodes : d.nodes ≡ c.nodes
  pub sessions : d.sessions ≡ c.sessions
  pub joined : JoinAllOf (edges_of c) (edges_of d)
  pub up : (x y : Addr) → has_link_up c x y ≡ true → has_link_up d x y ≡ true

both_are : (p q : Bool) → (p && q) ≡ true → (p ≡ true) × (q ≡ true)
both_are true q is = (refl, is)
both_are false q is = absurd (true≢false (sym is))

both_so : {p q : Bool} → p ≡ true → q ≡ true → (p && q) ≡ true
both_so is is' = λ i. is i && is' i

module _ (laws : HasLaws) where
  -- the cost by a tree is the least
  cost_is : (c : Configuration) → IsOrderly c → (x y : Addr) → has_node c x ≡ true →
      cost c x y ≡ least_cost (nodes_of c) (edges_of c) x y
  cost_is c ok x y node =
      laws.one (nodes_of c) (edges_of c) x y (cost c x y) (least_cost (nodes_of c) (edges_of c) x y)
      ((laws.trees (nodes_of c) (edges_of c) (topology c ok.sound ok.nodes) (edge_metrics c ok.sound) x
      (same_node c x ∙ node)).costs y)
      (laws.least (nodes_of c) (edges_of c) x y)

  module _ (c d : Configuration) (before : IsOrderly c) (after : IsOrderly d) (keeps : Keeps c d) where
    reached : (x y : Addr) → has_node c x ≡ true → is_some (cost c x y) ≡ true → is_some (cost d x y) ≡ true
    reached x y node some =
        let there : has_node d x ≡ true = ap (λ ns. is_some (lookup (is_at (addr_cmp x)) ns)) keeps.nodes ∙ node in
        let same : nodes_of d ≡ nodes_of c = ap nodes_in keeps.nodes in
        ap is_some (cost_is d after x y there ∙ ap (λ ns. least_cost ns (edges_of d) x y) same)
        ∙ laws.more (nodes_of c) (edges_of c) (edges_of d) keeps.joined x y
        (sym (ap is_some (cost_is c before x y node)) ∙ some)
      where
        nodes_in : List (Addr × Node) → List (Addr × ℕ)
        nodes_in ns = map (λ e. (e.0, e.1.asn)) ns

    same_external : (x y : Addr) → is_external d x y ≡ is_external c x y
    same_external x y = ap external keeps.nodes
      where
        asn_in : List (Addr × Node) → Addr → Option ℕ
        asn_in ns a = option_map (λ (n : Node). n.asn) (lookup (is_at (addr_cmp a)) ns)

        external : List (Addr × Node) → Bool
        external ns = not (same_number (asn_in ns x) (asn_in ns y))

    connected : (x y : Addr) → has_session c x y ≡ true → is_connected c x y ≡ true → is_connected d x y ≡ true
    connected x y session is = by (is_external c x y) refl is
      where
        by : (external : Bool) → is_external c x y ≡ external →
            (if external then has_link_up c x y else (is_some (cost c x y) && is_some (cost c y x))) ≡ true →
            is_connected d x y ≡ true
        by true e it = ap (λ t. if t then has_link_up d x y else (is_some (cost d x y) && is_some (cost d y x)))
            (same_external x y ∙ e) ∙ keeps.up x y it
        by false e it =
            let costs = both_are (is_some (cost c x y)) (is_some (cost c y x)) it in
            let first : has_node c x ≡ true = end_node c x before.sound (session_ends c x y session) in
            let second : has_node c y ≡ true =
            end_node c y before.sound (session_ends c y x (session_turned c x y session)) in
            ap (λ t. if t then has_link_up d x y else (is_some (cost d x y) && is_some (cost d y x))) (same_external x y
            ∙ e)
            ∙ both_so (reached x y first costs.0) (reached y x second costs.1)

    pub none_goes_down : NoneGoesDown c d
    unfolding session_up
    none_goes_down x y up = by (session_between c x y) refl up
      where
        by : (o : Option Bool) → session_between c x y ≡ o →
            unwrap_or (option_map (λ enabled. enabled && is_connected c x y) o) false ≡ true →
            unwrap_or (option_map (λ enabled. enabled && is_connected d x y) (session_between d x y)) false ≡ true
        by None is it = absurd (true≢false (sym it))
        by (Some enabled) is it =
            let parts = both_are enabled (is_connected c x y) it in
            let there : session_between d x y ≡ Some enabled =
            ap (λ ss. lookup (is_at (ends_cmp (ends_of x y))) ss) keeps.sessions ∙ is in
            ap (λ o. unwrap_or (option_map (λ on. on && is_connected d x y) o) false) there
            ∙ both_so parts.0 (connected x y (ap is_some is) parts.1)

-- A LINK

-- the links that are not the one that is put in
module _ (c : Configuration) (a b : Addr) (link : TheLink) where
  other_link : (x y : Addr) → is_at (ends_cmp (ends_of x y)) (ends_of a b) ≡ false →
      has_link_up (record c { links = insert_entry ends_cmp c.links (ends_of a b) link }) x y ≡ has_link_up c x y
  other_link x y other = ap (λ o. unwrap_or (option_map (λ (l : TheLink). l.up) o) false)
      (lookup_with ends_cmp ends_exact (is_at (ends_cmp (ends_of x y))) (ends_of a b) other link c.links)

-- what is so of the link of the two, and stays so of all others, is so of all
all_up : (c d : Configuration) (a b : Addr) → (has_link_up c a b ≡ true → has_link_up d a b ≡ true) →
    ((x y : Addr) → is_at (ends_cmp (ends_of x y)) (ends_of a b) ≡ false → has_link_up d x y ≡ has_link_up c x y) →
    (x y : Addr) → has_link_up c x y ≡ true → has_link_up d x y ≡ true
all_up c d a b still others x y up = by (is_at (ends_cmp (ends_of x y)) (ends_of a b)) refl
  where
    up_in : Configuration → Ends → Bool
    up_in z e = unwrap_or (option_map (λ (l : TheLink). l.up) (lookup (is_at (ends_cmp e)) z.links)) false

    by : (t : Bool) → is_at (ends_cmp (ends_of x y)) (ends_of a b) ≡ t → has_link_up d x y ≡ true
    by true at =
        let same = same_ends (ends_of x y) (ends_of a b) at in
        ap (up_in d) same ∙ still (sym (ap (up_in c) same) ∙ up)
    by false at = others x y at ∙ up

module _ (laws : HasLaws) (c d : Configuration) (a b : Addr) (before : IsOrderly c) (after : IsOrderly d)
    (sorted : IsStrictlySortedBy ends_cmp (keys_of c.links)) (linked : IsLinked c d a b) where
  others : (x y : Addr) → is_at (ends_cmp (ends_of x y)) (ends_of a b) ≡ false → has_link_up d x y ≡ has_link_up c x y
  others x y other = ap (λ z. has_link_up z x y) linked.is ∙ other_link c a b linked.link x y other

  pub stay_up : (has_link_up c a b ≡ true → has_link_up d a b ≡ true) → NoneGoesDown c d
  stay_up still = none_goes_down laws c d before after (record {
    nodes = ap (λ (z : Configuration). z.nodes) linked.is;
    sessions = ap (λ (z : Configuration). z.sessions) linked.is;
    joined = edges_join c d a b sorted linked still;
    up = all_up c d a b still others;
  })

  pub stay_down : (has_link_up d a b ≡ true → has_link_up c a b ≡ true) → NoneGoesDown d c
  stay_down still = none_goes_down laws d c after before (record {
    nodes = sym (ap (λ (z : Configuration). z.nodes) linked.is);
    sessions = sym (ap (λ (z : Configuration). z.sessions) linked.is);
    joined = edges_joined c d a b sorted linked still;
    up = all_up d c a b still (λ x y other. sym (others x y other));
  })
