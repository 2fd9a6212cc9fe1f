use Rattle.std.proofs.Common.{is_some, ap, subst, ◌∙◌}
use Rattle.cell_engine.specs.RouterTables.{value_at}
use Rattle.cell_engine.specs.State.{State}
use Rattle.cell_engine.specs.Deliveries.{KeepsSame}
use Rattle.cell_engine.proofs.Growth.{grown_sound, grown_prefixes, grown_same, grown_there, ups_kept}
use Rattle.cell_engine.proofs.state.State.grow_cell.Goals as goal

pub invariant_of-self : goal.invariant_of-self
invariant_of-self g c =
    let e : State = record {
      conf = c.self.inside.conf;
      tables = c.self.inside.tables;
      directions = c.self.inside.directions;
      queues = c.self.inside.queues;
    } in
    let absent = ap (λ n. is_some (value_at c.args.router c.args.prefix n.tables)) c.self.view_is ∙ c.requires in
    let same = grown_same e c.args.router c.args.prefix c.add_cell.new.tables c.add_cell.result c.add_cell.ensures.ok
    c.add_cell.ensures.err c.self.invariant.0 absent in (
      grown_sound e c.args.router c.args.prefix c.add_cell.new.tables c.add_cell.result c.add_cell.ensures.ok
          c.add_cell.ensures.err c.self.invariant.0 absent,
      grown_prefixes e c.args.router c.args.prefix c.add_cell.new.tables c.add_cell.result c.add_cell.ensures.ok
          c.add_cell.ensures.err c.len.ensures.block c.self.invariant.1,
      ups_kept e (record e { tables = c.add_cell.new.tables }) same c.self.invariant.2,
    )

pub returns-clause-same : goal.returns-clause-same
returns-clause-same g c =
    let e : State = record {
      conf = c.self.inside.conf;
      tables = c.self.inside.tables;
      directions = c.self.inside.directions;
      queues = c.self.inside.queues;
    } in
    let absent = ap (λ n. is_some (value_at c.args.router c.args.prefix n.tables)) c.self.view_is ∙ c.requires in
    subst (λ n. KeepsSame n (record e { tables = c.add_cell.new.tables })) c.self.view_is
    (grown_same e c.args.router c.args.prefix c.add_cell.new.tables c.add_cell.result c.add_cell.ensures.ok
    c.add_cell.ensures.err c.self.invariant.0 absent)

pub returns-clause-there : goal.returns-clause-there
returns-clause-there g c =
    let e : State = record {
      conf = c.self.inside.conf;
      tables = c.self.inside.tables;
      directions = c.self.inside.directions;
      queues = c.self.inside.queues;
    } in
    grown_there e c.args.router c.args.prefix c.add_cell.new.tables c.add_cell.result c.add_cell.ensures.ok
