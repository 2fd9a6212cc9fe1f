use Rattle.std.proofs.Common.{◌≡◌, ◌∙◌, None, sym, ap, subst}
use Rattle.net_conf.specs.Configuration.{ends_session}
use Rattle.net_conf.specs.Concerned.{StaysAt}
use Rattle.net_conf.specs.Edits.{refusal_of, edited}
use Rattle.net_conf.proofs.NamedConcerns.{NamesNot, named_concerns, ends_not_named}
use Rattle.net_conf.proofs.kept.conf_trees.ConfTrees.concerned_by_name.Goals as goal

pub returns-clause-alone : goal.returns-clause-alone
returns-clause-alone c r out =
    let s = c.self.inside.tables in
    let e = c.args.edit.now in
    let none : refusal_of s e ≡ None = ap (λ x. refusal_of x e) c.self.view_is ∙ c.requires.passes in
    let other : NamesNot e r = record {
      router = λ a is. c.in_ok-named.ensures.router r a out is;
      node = λ a is. c.in_ok-named.ensures.node r a out is;
      session = λ a b is. c.in_ok-named.ensures.session r a b out is;
    } in
    subst (λ d. StaysAt c.args.self.now d r) (sym c.requires.made)
    (subst (λ x. StaysAt x (edited x e) r) c.self.view_is
    (named_concerns c.lone_node_moves_no_tree.ensures s c.self.invariant.0 c.orders.ensures.nodes r e none
    c.requires.link other))

pub returns-clause-ends : goal.returns-clause-ends
returns-clause-ends c r out =
    let s = c.self.inside.tables in
    let e = c.args.edit.now in
    let none : refusal_of s e ≡ None = ap (λ x. refusal_of x e) c.self.view_is ∙ c.requires.passes in
    let other : NamesNot e r = record {
      router = λ a is. c.in_ok-named.ensures.router r a out is;
      node = λ a is. c.in_ok-named.ensures.node r a out is;
      session = λ a b is. c.in_ok-named.ensures.session r a b out is;
    } in
    ap (λ x. ends_session x r) (c.requires.made ∙ ap (λ x. edited x e) (sym c.self.view_is))
    ∙ ends_not_named c.lone_node_moves_no_tree.ensures s c.self.invariant.0 c.orders.ensures.nodes r e none
    c.requires.link other
    ∙ ap (λ x. ends_session x r) c.self.view_is
