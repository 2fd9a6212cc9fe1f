use Rattle.std.proofs.Common.{◌≡◌, sym, subst, ◌∙◌}
use Rattle.cell_engine.specs.State.{State, IsConsistent}
use Rattle.cell_engine.specs.Changes.{AreOverSessionsUp}
use Rattle.cell_engine.specs.Reporting.{AreOfPrefixes}
use Rattle.cell_engine.proofs.state.StateCopied.copy.Goals as goal

pub invariant_of-result : goal.invariant_of-result
invariant_of-result g c =
    let before : State = record {
      conf = c.self.inside.conf;
      tables = c.self.inside.tables;
      directions = c.self.inside.directions;
      queues = c.self.inside.queues;
    } in
    let is : before ≡ record {
      conf = c.in_ok-conf.conf;
      tables = c.in_ok-tables.tables;
      directions = c.in_ok-directions.directions;
      queues = c.in_ok-queues.queues;
    } =
    λ i. record {
      conf = sym c.in_ok-conf.ensures i;
      tables = sym c.in_ok-tables.ensures i;
      directions = sym c.in_ok-directions.ensures.ok i;
      queues = sym c.in_ok-queues.ensures i;
    } in (
      subst IsConsistent is c.self.invariant.0,
      subst AreOfPrefixes (sym c.in_ok-tables.ensures) c.self.invariant.1,
      subst (λ (s : State). AreOverSessionsUp s.conf s.tables) is c.self.invariant.2,
    )

pub returns : goal.returns
returns g c =
    let before : State = record {
      conf = c.self.inside.conf;
      tables = c.self.inside.tables;
      directions = c.self.inside.directions;
      queues = c.self.inside.queues;
    } in
    let is : before ≡ record {
      conf = c.in_ok-conf.conf;
      tables = c.in_ok-tables.tables;
      directions = c.in_ok-directions.directions;
      queues = c.in_ok-queues.queues;
    } =
    λ i. record {
      conf = sym c.in_ok-conf.ensures i;
      tables = sym c.in_ok-tables.ensures i;
      directions = sym c.in_ok-directions.ensures.ok i;
      queues = sym c.in_ok-queues.ensures i;
    } in
    sym is ∙ c.self.view_is
