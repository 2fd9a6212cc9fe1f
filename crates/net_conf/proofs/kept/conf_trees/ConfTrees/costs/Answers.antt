use Rattle.std.proofs.Common.{◌≡◌, ◌∙◌, Some, option_copied, sym, ap}
use Rattle.std.proofs.lemmas.Result.{IfOk-weaker}
use Rattle.net_conf.specs.Configuration.{Configuration}
use Rattle.net_conf.specs.Costs.{costs_of}
use Rattle.net_conf.specs.Kept.{tree_kept}
use Rattle.net_conf.proofs.KeptTrees.{kept_is}
use Rattle.net_conf.proofs.kept.conf_trees.ConfTrees.costs.Goals as goal

pub returns-in-Some : goal.returns-in-Some
returns-in-Some c =
    let s = c.self.inside.tables in
    let kept : tree_kept s c.args.router ≡ Some c.in-Some.tree.now =
    sym (c.self.invariant.1 c.args.router) ∙ sym c.get.ensures ∙ ap (λ o. option_copied o) c.in-Some.is in
    IfOk-weaker c.copy.result (λ t. t ≡ c.in-Some.tree.now) (λ t. t ≡ costs_of c.args.self.now c.args.router)
    (λ t is. is ∙ (kept_is s c.args.router c.in-Some.tree.now kept).1
    ∙ ap (λ (x : Configuration). costs_of x c.args.router) c.self.view_is) c.copy.ensures
