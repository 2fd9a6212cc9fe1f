use Rattle.std.proofs.Common.{IfOk, IfSome, refl, sym, subst, inr}
use Rattle.std.proofs.lemmas.Result.{IfOk-weaker}
use Rattle.igp_cost.specs.declared.change.Change.{Change}
use Rattle.igp_cost.specs.declared.change.Change.TheVariants.{Added}
use Rattle.igp_cost.specs.Trees.{Reached}
use Rattle.igp_cost.specs.Offers.{IsGrownOver, IsGrownTo}
use Rattle.igp_cost.proofs.Leaf.{some_weaker}
use Rattle.igp_cost.proofs.least_trees.rooted.RootedGraph.grown_tree.Goals as goal

pub returns-in-None-Some : goal.returns-in-None-Some
returns-in-None-Some c =
    let nodes = c.args.self.now.nodes.now in
    let links = c.args.self.now.links.now in
    let t = c.args.old.now in
    let added : Change = Added c.in-Added.one c.in-Added.other c.in-Added.metric in
    let To : Reached → Type 0 = λ made. IsGrownTo nodes links t c.in-Added.one made in
    let Over : Change → Reached → Type 0 = λ change made. IsGrownOver nodes links change t made in
    subst (λ (change : Change). IfOk c.grown_to-in-None-Some.result (λ o. IfSome o (Over change))) (sym c.in-Added.is)
    (IfOk-weaker c.grown_to-in-None-Some.result (λ o. IfSome o To) (λ o. IfSome o (Over added))
    (λ o. some_weaker o To (Over added) (λ made grown. record {
      adds = λ none. none;
      near = c.in-Added.other;
      leaf = c.in-Added.one;
      ends = inr (refl, refl);
      grown = grown;
    }))
    c.grown_to-in-None-Some.ensures)
