use Rattle.std.proofs.Common.{◌≡◌, true, ◌∙◌, Some, None, sym, ap, subst}
use Rattle.std.specs.Map.{lookup}
use Rattle.std.specs.BTreeMap.{is_at}
use Rattle.net_prefix.specs.Address.{addr_cmp}
use Rattle.net_conf.specs.Configuration.{ends_of, ends_session}
use Rattle.net_conf.specs.Costs.{costs_of}
use Rattle.net_conf.specs.Kept.{AreKept, IsLinked, metric_up, edge_change}
use Rattle.net_conf.proofs.EdgeChange.{changed_by, edges_same}
use Rattle.net_conf.proofs.Members.{were_members, kept_then}
use Rattle.net_conf.proofs.TreesAfter.{kept_still, stay_with_link, costs_from_kept}
use Rattle.net_conf.proofs.kept.conf_trees.ConfTrees.trees_of_members.Goals as goal

pub carry_members-requires : goal.carry_members-requires
carry_members-requires c =
    let s = c.self.inside.tables in
    let d = c.args.tables.now in
    let a = c.args.one in
    let b = c.args.other in
    let linked = subst (λ x. IsLinked x d a b) (sym c.self.view_is) c.requires.linked in
    let change = c.in-Some.change in
    let is : edge_change (ends_of a b) (metric_up s a b) (metric_up d a b) ≡ Some change = sym c.change_to.ensures
    ∙ c.in-Some.is in
    let changes = changed_by s d a b c.self.invariant.0 c.requires.sound c.orders.ensures.links linked
    c.one_edge_is_a_change.ensures change is in
    record {
      were = were_members s d a b c.args.members.now c.requires.members c.self.invariant.0 c.requires.sound
          c.orders.ensures.nodes linked c.own_edges_make_a_tree.ensures change is changes
          c.in_ok-graph-in-Some.graph c.in_ok-graph-in-Some.ensures.nodes c.in_ok-graph-in-Some.ensures.edges
          c.tree_of_is_a_tree.ensures c.own_nodes_make_a_tree.ensures c.self.inside.trees c.self.invariant.1;
    }

pub returns-in_ok-carried-in-Some-clause-trees : goal.returns-in_ok-carried-in-Some-clause-trees
returns-in_ok-carried-in-Some-clause-trees c =
    let s = c.self.inside.tables in
    let d = c.args.tables.now in
    let a = c.args.one in
    let b = c.args.other in
    let linked = subst (λ x. IsLinked x d a b) (sym c.self.view_is) c.requires.linked in
    let change = c.in-Some.change in
    let is : edge_change (ends_of a b) (metric_up s a b) (metric_up d a b) ≡ Some change = sym c.change_to.ensures
    ∙ c.in-Some.is in
    let changes = changed_by s d a b c.self.invariant.0 c.requires.sound c.orders.ensures.links linked
    c.one_edge_is_a_change.ensures change is in
    kept_then s d a b c.args.members.now c.requires.members c.self.invariant.0 c.requires.sound c.orders.ensures.nodes
    linked c.own_edges_make_a_tree.ensures change is changes
    c.in_ok-graph-in-Some.graph c.in_ok-graph-in-Some.ensures.nodes c.in_ok-graph-in-Some.ensures.edges
    c.tree_of_is_a_tree.ensures c.trees_are_one.ensures c.own_nodes_make_a_tree.ensures
    c.self.inside.trees c.in_ok-carried-in-Some.carried.trees c.self.invariant.1 c.in_ok-carried-in-Some.ensures.trees
    c.in_ok-carried-in-Some.ensures.others

pub returns-in_ok-carried-in-Some-clause-moved : goal.returns-in_ok-carried-in-Some-clause-moved
returns-in_ok-carried-in-Some-clause-moved c r out ends =
    let s = c.self.inside.tables in
    let d = c.args.tables.now in
    let a = c.args.one in
    let b = c.args.other in
    let linked = subst (λ x. IsLinked x d a b) (sym c.self.view_is) c.requires.linked in
    let change = c.in-Some.change in
    let is : edge_change (ends_of a b) (metric_up s a b) (metric_up d a b) ≡ Some change = sym c.change_to.ensures
    ∙ c.in-Some.is in
    let changes = changed_by s d a b c.self.invariant.0 c.requires.sound c.orders.ensures.links linked
    c.one_edge_is_a_change.ensures change is in
    let kept : AreKept d c.in_ok-carried-in-Some.carried.trees =
    kept_then s d a b c.args.members.now c.requires.members c.self.invariant.0 c.requires.sound
    c.orders.ensures.nodes linked c.own_edges_make_a_tree.ensures change is changes
    c.in_ok-graph-in-Some.graph c.in_ok-graph-in-Some.ensures.nodes c.in_ok-graph-in-Some.ensures.edges
    c.tree_of_is_a_tree.ensures c.trees_are_one.ensures c.own_nodes_make_a_tree.ensures
    c.self.inside.trees c.in_ok-carried-in-Some.carried.trees c.self.invariant.1 c.in_ok-carried-in-Some.ensures.trees
    c.in_ok-carried-in-Some.ensures.others in
    let there : ends_session s r ≡ true = ap (λ x. ends_session x r) c.self.view_is ∙ ends in
    costs_from_kept s d r (ap (λ x. ends_session x r) linked.is) (sym (kept r)
    ∙ c.in_ok-carried-in-Some.ensures.moved r out ∙ c.self.invariant.1 r) there
    ∙ ap (λ x. costs_of x r) c.self.view_is

pub returns-in_ok-trees-in-None-clause-trees : goal.returns-in_ok-trees-in-None-clause-trees
returns-in_ok-trees-in-None-clause-trees c r =
    let s = c.self.inside.tables in
    let d = c.args.tables.now in
    let a = c.args.one in
    let b = c.args.other in
    let linked = subst (λ x. IsLinked x d a b) (sym c.self.view_is) c.requires.linked in
    let is : edge_change (ends_of a b) (metric_up s a b) (metric_up d a b) ≡ None = sym c.change_to.ensures
    ∙ c.in-None.is in
    let edges = edges_same s d a b c.self.invariant.0 c.requires.sound c.orders.ensures.links linked is in
    let same : c.in_ok-trees-in-None.trees ≡ c.self.inside.trees = c.in_ok-trees-in-None.ensures.ok in
    ap (lookup (is_at (addr_cmp r))) same
    ∙ kept_still s d c.self.inside.trees (stay_with_link s d a b linked edges) c.self.invariant.1 r

pub returns-in_ok-trees-in-None-clause-moved : goal.returns-in_ok-trees-in-None-clause-moved
returns-in_ok-trees-in-None-clause-moved c r out ends =
    let s = c.self.inside.tables in
    let d = c.args.tables.now in
    let a = c.args.one in
    let b = c.args.other in
    let linked = subst (λ x. IsLinked x d a b) (sym c.self.view_is) c.requires.linked in
    let is : edge_change (ends_of a b) (metric_up s a b) (metric_up d a b) ≡ None = sym c.change_to.ensures
    ∙ c.in-None.is in
    let edges = edges_same s d a b c.self.invariant.0 c.requires.sound c.orders.ensures.links linked is in
    let there : ends_session s r ≡ true = ap (λ x. ends_session x r) c.self.view_is ∙ ends in
    (stay_with_link s d a b linked edges).costs r there ∙ ap (λ x. costs_of x r) c.self.view_is
