use Rattle.std.proofs.Common.{sym, subst}
use Rattle.std.specs.Bool.{OnTrue}
use Rattle.std.proofs.lemmas.Result.{IfOk-weaker}
use Rattle.igp_cost.specs.Labels.{Starts, IsClosed, AreBackedLabels}
use Rattle.igp_cost.specs.Codes.{AreCodes, ArePassed, IsStill}
use Rattle.igp_cost.proofs.Codes.{on_true, still_closed, still_backed}
use Rattle.igp_cost.proofs.least_trees.rooted.RootedGraph.are_least.Goals as goal

pub returns-clause-backed : goal.returns-clause-backed
returns-clause-backed c =
    let start = subst (λ b. OnTrue b (Starts c.args.self.now.nodes.now c.args.self.now.source c.args.labels.now))
    c.if-not-starts_in.false c.starts_in.ensures in
    let coded = subst (AreCodes c.args.labels.now) (sym c.deref.ensures.value) c.in_ok-codes.ensures in
    let passing = subst (ArePassed c.args.self.now.nodes.now c.args.self.now.source c.args.labels.now)
    (sym c.deref-2.ensures.value) c.in_ok-passed.ensures in
    let Still = IsStill c.args.self.now.nodes.now c.args.self.now.source c.args.self.now.links.now c.deref.result.now
    c.deref-2.result.now in
    let Goal = AreBackedLabels c.args.self.now.nodes.now c.args.self.now.source c.args.self.now.links.now
    c.args.labels.now in
    IfOk-weaker c.is_met_and_shut.result (λ b. OnTrue b Still) (λ b. OnTrue b Goal)
    (λ b. on_true b Still Goal
    (λ still. still_backed c.args.self.now.nodes.now c.args.self.now.source c.args.self.now.links.now
    c.args.labels.now c.deref.result.now c.deref-2.result.now c.args.self.now.within c.requires start
    coded passing still))
    c.is_met_and_shut.ensures

pub returns-clause-closed : goal.returns-clause-closed
returns-clause-closed c =
    let start = subst (λ b. OnTrue b (Starts c.args.self.now.nodes.now c.args.self.now.source c.args.labels.now))
    c.if-not-starts_in.false c.starts_in.ensures in
    let coded = subst (AreCodes c.args.labels.now) (sym c.deref.ensures.value) c.in_ok-codes.ensures in
    let passing = subst (ArePassed c.args.self.now.nodes.now c.args.self.now.source c.args.labels.now)
    (sym c.deref-2.ensures.value) c.in_ok-passed.ensures in
    let Still = IsStill c.args.self.now.nodes.now c.args.self.now.source c.args.self.now.links.now c.deref.result.now
    c.deref-2.result.now in
    let Goal = IsClosed c.args.self.now.nodes.now c.args.self.now.source c.args.self.now.links.now c.args.labels.now in
    IfOk-weaker c.is_met_and_shut.result (λ b. OnTrue b Still) (λ b. OnTrue b Goal)
    (λ b. on_true b Still Goal
    (λ still. still_closed c.args.self.now.nodes.now c.args.self.now.source c.args.self.now.links.now
    c.args.labels.now c.deref.result.now c.deref-2.result.now c.args.self.now.within c.requires start
    coded passing still))
    c.is_met_and_shut.ensures
