use Rattle.std.proofs.Common.{◌≡◌, ◌∙◌, sym, ap, subst, None, true}
use Rattle.net_conf.specs.Edits.{refusal_of, edited}
use Rattle.net_conf.specs.Configuration.{ends_session}
use Rattle.net_conf.specs.Costs.{costs_of}
use Rattle.net_conf.specs.Kept.{IsJoined}
use Rattle.net_conf.proofs.TreesAfter.{joined_after, costs_stay}
use Rattle.net_conf.proofs.kept.conf_trees.ConfTrees.trees_without_link.Goals as goal

pub trees_with_session-requires-clause-joined : goal.trees_with_session-requires-clause-joined
trees_with_session-requires-clause-joined c =
    subst (λ d. IsJoined c.args.self.now d c.in-Some.one c.in-Some.other) (sym c.requires.made)
    (joined_after c.args.self.now c.args.edit.now c.in-Some.one c.in-Some.other (sym c.session.ensures ∙ c.in-Some.is))

pub returns-clause-moved : goal.returns-clause-moved
returns-clause-moved c r out ends =
    let s = c.self.inside.tables in
    let e = c.args.edit.now in
    let none : refusal_of s e ≡ None = ap (λ x. refusal_of x e) c.self.view_is ∙ c.requires.passes in
    let there : ends_session s r ≡ true = ap (λ x. ends_session x r) c.self.view_is ∙ ends in
    ap (λ x. costs_of x r) (c.requires.made ∙ ap (λ x. edited x e) (sym c.self.view_is))
    ∙ costs_stay c.lone_node_moves_no_tree.ensures s e c.self.invariant.0 c.orders.ensures.nodes none
    c.requires.link r there
    ∙ ap (λ x. costs_of x r) c.self.view_is
