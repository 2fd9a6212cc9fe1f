use Rattle.std.proofs.Common.{ℕ, ◌<◌, length}
use Rattle.std.proofs.lemmas.List.Elements.{All-push}
use Rattle.igp_cost.proofs.Kernel.{no_link}
use Rattle.igp_cost.proofs.least_trees.rooted.RootedGraph.shift_over.Goals as goal

pub returns-in_ok-push-clause-moved : goal.returns-in_ok-push-clause-moved
returns-in_ok-push-clause-moved c =
    let P : ℕ → Type 0 = λ p. p < length c.args.self.now.nodes.now in
    let ends = c.args.self.now.within c.args.i no_link c.requires.i in
    rw (c.in_ok-push.ensures.items) (All-push P c.args.moved.now.items _ c.requires.moved ends.1)
