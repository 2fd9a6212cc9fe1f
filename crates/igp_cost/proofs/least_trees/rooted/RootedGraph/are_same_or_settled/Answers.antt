use Rattle.std.proofs.Common.{◌≡◌, ℕ, ◌+◌, ◌<◌, subst, inl, inr, rules, arith}
use Rattle.std.proofs.lemmas.Bool.{cases_lt}
use Rattle.igp_cost.specs.Placed.{tree_in}
use Rattle.igp_cost.specs.Offers.{IsSameOrSettled}
use Rattle.igp_cost.proofs.least_trees.rooted.RootedGraph.are_same_or_settled.Goals as goal

one_more : (P : ℕ → Type 0) (n : ℕ) → ((v : ℕ) → v < n → P v) → P n → (v : ℕ) → v < n + 1 → P v
one_more P n old here v lt = elim (cases_lt v n) [
  | inl before ↦ old v before
  | inr after ↦ let at : n ≡ v = omega arith in subst P at here
]

pub loop-at-preserved : goal.loop-at-preserved
loop-at-preserved c =
    let nodes = c.args.self.now.nodes.now in
    let P : ℕ → Type 0 = λ v. IsSameOrSettled nodes c.args.self.now.links.now
    (tree_in nodes c.args.self.now.source c.args.before.now)
    (tree_in nodes c.args.self.now.source c.args.rows.now) v in
    one_more P c.loop-at.at c.loop-at.invariant c.if-not-is_same_or_settled.ensures

pub returns : goal.returns
returns c = λ v lt. c.loop-at.invariant v (search rules)
