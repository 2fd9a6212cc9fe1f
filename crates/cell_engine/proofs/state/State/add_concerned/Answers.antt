use Rattle.std.proofs.Common.{◌++◌, sym, ap, ◌∙◌}
use Rattle.std.proofs.lemmas.List.{append-nil}
use Rattle.cell_engine.proofs.Unmoved.{none_of_router}
use Rattle.cell_engine.specs.Becomings.{all_changes}
use Rattle.cell_engine.proofs.state.State.add_concerned.Goals as goal

pub returns-then-not-contains-clause-more : goal.returns-then-not-contains-clause-more
returns-then-not-contains-clause-more g c =
    let ts = c.args.self.now.tables in
    sym (
    ap (λ l. all_changes c.args.becomings.now ts ++ l)
    (none_of_router c.args.self.now.conf c.args.conf.now c.args.router
    (c.requires c.args.router (sym c.contains.ensures ∙ c.if-not-contains.true)) ts c.facts.ensures.sessions)
    ∙ append-nil (all_changes c.args.becomings.now ts)
    )
