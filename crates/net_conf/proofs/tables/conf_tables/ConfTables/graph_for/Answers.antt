use Rattle.std.proofs.Common.{◌≡◌, ◌∙◌, true, ap}
use Rattle.std.proofs.lemmas.Result.{IfOk-weaker}
use Rattle.igp_cost.specs.Topology.{Topology, is_node}
use Rattle.net_conf.specs.Concerned.{is_among}
use Rattle.net_conf.specs.Costs.{nodes_of, edges_of}
use Rattle.net_conf.specs.Members.{members_of}
use Rattle.net_conf.proofs.Members.{first_in, second_in, node_for, tree_for}
use Rattle.net_conf.proofs.Nodes.{same_node}
use Rattle.net_conf.proofs.tables.conf_tables.ConfTables.graph_for.Goals as goal

pub returns-then-are_few-clause-first : goal.returns-then-are_few-clause-first
returns-then-are_few-clause-first c =
    let s = c.args.self.now in
    let a = c.args.one in
    let b = c.args.other in
    let rs = c.deref-then-are_few.result.now in
    let is : rs ≡ members_of s a b = c.deref-then-are_few.ensures.value ∙ c.in_ok-members.ensures.list in
    let sorted = c.members.ensures.ascending in
    let graph = c.in_ok-graph in
    node_for s a b rs is c.requires.sound sorted graph.graph graph.ensures.nodes graph.ensures.edges c.args.one
    (ap (is_among c.args.one) is ∙ first_in s a b sorted (same_node s c.args.one ∙ c.requires.first))

pub returns-then-are_few-clause-second : goal.returns-then-are_few-clause-second
returns-then-are_few-clause-second c =
    let s = c.args.self.now in
    let a = c.args.one in
    let b = c.args.other in
    let rs = c.deref-then-are_few.result.now in
    let is : rs ≡ members_of s a b = c.deref-then-are_few.ensures.value ∙ c.in_ok-members.ensures.list in
    let sorted = c.members.ensures.ascending in
    let graph = c.in_ok-graph in
    node_for s a b rs is c.requires.sound sorted graph.graph graph.ensures.nodes graph.ensures.edges c.args.other
    (ap (is_among c.args.other) is ∙ second_in s a b sorted (same_node s c.args.other ∙ c.requires.second))

pub returns-then-are_few-clause-one : goal.returns-then-are_few-clause-one
returns-then-are_few-clause-one c =
    let s = c.args.self.now in
    let a = c.args.one in
    let b = c.args.other in
    let rs = c.deref-then-are_few.result.now in
    let is : rs ≡ members_of s a b = c.deref-then-are_few.ensures.value ∙ c.in_ok-members.ensures.list in
    let sorted = c.members.ensures.ascending in
    let graph = c.in_ok-graph in
    tree_for s a b rs is c.requires.sound sorted graph.graph graph.ensures.nodes graph.ensures.edges c.args.one
    (ap (is_among c.args.one) is ∙ first_in s a b sorted (same_node s c.args.one ∙ c.requires.first))
    c.tree_of_is_a_tree.ensures c.trees_are_one.ensures c.own_edges_make_a_tree.ensures
    c.own_nodes_make_a_tree.ensures

pub returns-then-are_few-clause-other : goal.returns-then-are_few-clause-other
returns-then-are_few-clause-other c =
    let s = c.args.self.now in
    let a = c.args.one in
    let b = c.args.other in
    let rs = c.deref-then-are_few.result.now in
    let is : rs ≡ members_of s a b = c.deref-then-are_few.ensures.value ∙ c.in_ok-members.ensures.list in
    let sorted = c.members.ensures.ascending in
    let graph = c.in_ok-graph in
    tree_for s a b rs is c.requires.sound sorted graph.graph graph.ensures.nodes graph.ensures.edges c.args.other
    (ap (is_among c.args.other) is ∙ second_in s a b sorted (same_node s c.args.other ∙ c.requires.second))
    c.tree_of_is_a_tree.ensures c.trees_are_one.ensures c.own_edges_make_a_tree.ensures
    c.own_nodes_make_a_tree.ensures

pub returns-clause-first : goal.returns-clause-first
returns-clause-first c =
    let s = c.args.self.now in
    IfOk-weaker c.graph.result (λ g. g ≡ record { nodes = nodes_of s; edges = edges_of s })
    (λ g. is_node g.nodes c.args.one ≡ true)
    (λ g is. ap (λ (x : Topology). is_node x.nodes c.args.one) is ∙ same_node s c.args.one
    ∙ c.requires.first) c.graph.ensures

pub returns-clause-second : goal.returns-clause-second
returns-clause-second c =
    let s = c.args.self.now in
    IfOk-weaker c.graph.result (λ g. g ≡ record { nodes = nodes_of s; edges = edges_of s })
    (λ g. is_node g.nodes c.args.other ≡ true)
    (λ g is. ap (λ (x : Topology). is_node x.nodes c.args.other) is ∙ same_node s c.args.other
    ∙ c.requires.second) c.graph.ensures
