use Rattle.std.proofs.Common.{◌≡◌, ◌∙◌, None, sym, ap}
use Rattle.net_conf.specs.Costs.{down_sessions}
use Rattle.net_conf.specs.Edits.{refusal_of, edited}
use Rattle.net_conf.proofs.NamedConcerns.{down_as_before}
use Rattle.net_conf.proofs.kept.conf_trees.ConfTrees.no_session_turns.Goals as goal

pub returns : goal.returns
returns c =
    let s = c.self.inside.tables in
    let e = c.args.edit.now in
    let none : refusal_of s e ≡ None = ap (λ x. refusal_of x e) c.self.view_is ∙ c.requires.passes in
    ap (λ x. down_sessions x) (c.requires.made ∙ ap (λ x. edited x e) (sym c.self.view_is))
    ∙ down_as_before c.lone_node_moves_no_tree.ensures s c.self.invariant.0 c.orders.ensures.nodes e none
    c.requires.link c.requires.session
    ∙ ap (λ x. down_sessions x) c.self.view_is
