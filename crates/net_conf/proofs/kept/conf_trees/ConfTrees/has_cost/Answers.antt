use Rattle.std.proofs.Common.{◌≡◌, ◌∙◌, true, Some, is_some, option_copied, sym, ap}
use Rattle.std.proofs.lemmas.Option.{none-some, same_Some}
use Rattle.net_conf.specs.Configuration.{Configuration, has_session, ends_session}
use Rattle.net_conf.specs.Costs.{costs_of}
use Rattle.igp_cost.specs.Trees.{cost_in}
use Rattle.net_conf.proofs.KeptTrees.{session_ends, tree_there}
use Rattle.net_conf.proofs.kept.conf_trees.ConfTrees.has_cost.Goals as goal

pub returns-in-None : goal.returns-in-None
returns-in-None c =
    let s = c.self.inside.tables in
    let ends : ends_session s c.args.one ≡ true =
    session_ends s c.args.one c.args.other
    (ap (λ (x : Configuration). has_session x c.args.one c.args.other) c.self.view_is ∙ c.requires) in
    absurd (none-some (costs_of s c.args.one)
    (sym (ap (λ o. option_copied o) c.in-None.is) ∙ c.get.ensures ∙ c.self.invariant.1 c.args.one
    ∙ tree_there s c.args.one ends))

pub returns-in-Some : goal.returns-in-Some
returns-in-Some c =
    let s = c.self.inside.tables in
    let ends : ends_session s c.args.one ≡ true =
    session_ends s c.args.one c.args.other
    (ap (λ (x : Configuration). has_session x c.args.one c.args.other) c.self.view_is ∙ c.requires) in
    let tree : Some c.in-Some.tree.now ≡ Some (costs_of s c.args.one) =
    sym (ap (λ o. option_copied o) c.in-Some.is) ∙ c.get.ensures ∙ c.self.invariant.1 c.args.one
    ∙ tree_there s c.args.one ends in
    c.is_some.ensures ∙ ap is_some c.cost.ensures ∙ ap (λ t. is_some (cost_in t c.args.other)) (same_Some _ _ tree)
    ∙ ap (λ (x : Configuration). is_some (cost_in (costs_of x c.args.one) c.args.other)) c.self.view_is
