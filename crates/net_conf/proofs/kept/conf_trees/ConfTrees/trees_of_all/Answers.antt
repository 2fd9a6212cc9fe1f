use Rattle.std.proofs.Common.{◌≡◌, true, ◌∙◌, Some, None, option_map, sym, ap, subst}
use Rattle.std.specs.Map.{lookup}
use Rattle.std.specs.BTreeMap.{is_at}
use Rattle.net_prefix.specs.Address.{addr_cmp}
use Rattle.igp_cost.specs.Trees.{tree_of}
use Rattle.net_conf.specs.Configuration.{ends_of, ends_session}
use Rattle.net_conf.specs.Costs.{nodes_of, edges_of, costs_of}
use Rattle.net_conf.specs.Kept.{IsLinked, WereTrees, tree_kept, metric_up, edge_change}
use Rattle.net_conf.proofs.EdgeChange.{changed_by, edges_same, were_trees}
use Rattle.net_conf.proofs.TreesAfter.{kept_still, stay_with_link, kept_with_link, costs_from_kept}
use Rattle.net_conf.proofs.kept.conf_trees.ConfTrees.trees_of_all.Goals as goal

pub carry_trees-requires-clause-were : goal.carry_trees-requires-clause-were
carry_trees-requires-clause-were g c _ _ =
    let s = c.self.inside.tables in
    let d = c.args.tables.now in
    let a = c.args.one in
    let b = c.args.other in
    let linked = subst (λ x. IsLinked x d a b) (sym c.self.view_is) c.requires.linked in
    let change = c.in-Some.change in
    let is : edge_change (ends_of a b) (metric_up s a b) (metric_up d a b) ≡ Some change = sym c.change_to.ensures
    ∙ c.in-Some.is in
    let changes = changed_by s d a b c.self.invariant.0 c.requires.sound c.orders.ensures.links linked
    c.one_edge_is_a_change.ensures change is in
    subst (λ g. WereTrees change g.nodes g.edges c.self.inside.trees) (sym c.in_ok-graph-in-Some.ensures)
    (were_trees s d a b c.self.inside.trees change c.tree_of_is_a_tree.ensures c.self.invariant.0 c.orders.ensures.nodes
    linked c.self.invariant.1 changes)

pub returns-in_ok-carried-in-Some-clause-trees : goal.returns-in_ok-carried-in-Some-clause-trees
returns-in_ok-carried-in-Some-clause-trees g c r =
    let s = c.self.inside.tables in
    let d = c.args.tables.now in
    let linked = subst (λ x. IsLinked x d c.args.one c.args.other) (sym c.self.view_is) c.requires.linked in
    c.in_ok-carried-in-Some.ensures.trees r
    ∙ ap (λ g. option_map (λ t. tree_of g.nodes g.edges r) (lookup (is_at (addr_cmp r)) c.self.inside.trees))
    c.in_ok-graph-in-Some.ensures
    ∙ ap (option_map (λ t. tree_of (nodes_of d) (edges_of d) r)) (c.self.invariant.1 r)
    ∙ kept_with_link s d c.args.one c.args.other linked r

pub returns-in_ok-carried-in-Some-clause-moved : goal.returns-in_ok-carried-in-Some-clause-moved
returns-in_ok-carried-in-Some-clause-moved g c r out ends =
    let s = c.self.inside.tables in
    let d = c.args.tables.now in
    let linked = subst (λ x. IsLinked x d c.args.one c.args.other) (sym c.self.view_is) c.requires.linked in
    let there : ends_session s r ≡ true = ap (λ x. ends_session x r) c.self.view_is ∙ ends in
    let kept : lookup (is_at (addr_cmp r)) c.in_ok-carried-in-Some.carried.trees ≡ tree_kept d r =
    c.in_ok-carried-in-Some.ensures.trees r
    ∙ ap (λ g. option_map (λ t. tree_of g.nodes g.edges r) (lookup (is_at (addr_cmp r)) c.self.inside.trees))
    c.in_ok-graph-in-Some.ensures
    ∙ ap (option_map (λ t. tree_of (nodes_of d) (edges_of d) r)) (c.self.invariant.1 r)
    ∙ kept_with_link s d c.args.one c.args.other linked r in
    costs_from_kept s d r (ap (λ x. ends_session x r) linked.is) (sym kept ∙ c.in_ok-carried-in-Some.ensures.moved r out
    ∙ c.self.invariant.1 r) there
    ∙ ap (λ x. costs_of x r) c.self.view_is

pub returns-in_ok-trees-in-None-clause-trees : goal.returns-in_ok-trees-in-None-clause-trees
returns-in_ok-trees-in-None-clause-trees g c r =
    let s = c.self.inside.tables in
    let d = c.args.tables.now in
    let a = c.args.one in
    let b = c.args.other in
    let linked = subst (λ x. IsLinked x d a b) (sym c.self.view_is) c.requires.linked in
    let is : edge_change (ends_of a b) (metric_up s a b) (metric_up d a b) ≡ None = sym c.change_to.ensures
    ∙ c.in-None.is in
    let edges = edges_same s d a b c.self.invariant.0 c.requires.sound c.orders.ensures.links linked is in
    let same : c.in_ok-trees-in-None.trees ≡ c.self.inside.trees = c.in_ok-trees-in-None.ensures.ok in
    ap (lookup (is_at (addr_cmp r))) same
    ∙ kept_still s d c.self.inside.trees (stay_with_link s d a b linked edges) c.self.invariant.1 r

pub returns-in_ok-trees-in-None-clause-moved : goal.returns-in_ok-trees-in-None-clause-moved
returns-in_ok-trees-in-None-clause-moved g c r out ends =
    let s = c.self.inside.tables in
    let d = c.args.tables.now in
    let a = c.args.one in
    let b = c.args.other in
    let linked = subst (λ x. IsLinked x d a b) (sym c.self.view_is) c.requires.linked in
    let is : edge_change (ends_of a b) (metric_up s a b) (metric_up d a b) ≡ None = sym c.change_to.ensures
    ∙ c.in-None.is in
    let edges = edges_same s d a b c.self.invariant.0 c.requires.sound c.orders.ensures.links linked is in
    let there : ends_session s r ≡ true = ap (λ x. ends_session x r) c.self.view_is ∙ ends in
    (stay_with_link s d a b linked edges).costs r there ∙ ap (λ x. costs_of x r) c.self.view_is
