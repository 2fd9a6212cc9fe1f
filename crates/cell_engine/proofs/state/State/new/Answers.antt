use Rattle.std.proofs.Common.{◌≡◌, ap, sym, subst, ◌∙◌}
use Rattle.cell_engine.specs.State.{IsConsistent, network}
use Rattle.cell_engine.specs.Changes.{AreOverSessionsUp}
use Rattle.cell_engine.specs.Reporting.{AreOfPrefixes}
use Rattle.cell_engine.proofs.Matches.{no_tables}
use Rattle.cell_engine.proofs.Growth.{blank, blank_sound, blank_network, no_routes}
use Rattle.cell_engine.proofs.state.State.new.Goals as goal

pub invariant_of-result : goal.invariant_of-result
invariant_of-result g c =
    let is : blank c.new-4.result ≡ record {
      conf = c.new.result;
      tables = c.new-2.result;
      directions = c.new-3.result;
      queues = c.new-4.result;
    } =
    λ i. record {
      conf = sym c.new.ensures i;
      tables = sym c.new-2.ensures i;
      directions = sym c.new-3.ensures i;
      queues = c.new-4.result;
    } in (
      subst IsConsistent is (blank_sound c.new-4.result c.new-4.ensures.messages),
      subst AreOfPrefixes (sym c.new-2.ensures) no_tables,
      subst (AreOverSessionsUp c.new.result) (sym c.new-2.ensures) (no_routes c.new.result),
    )

pub returns : goal.returns
returns g c =
    let is : blank c.new-4.result ≡ record {
      conf = c.new.result;
      tables = c.new-2.result;
      directions = c.new-3.result;
      queues = c.new-4.result;
    } =
    λ i. record {
      conf = sym c.new.ensures i;
      tables = sym c.new-2.ensures i;
      directions = sym c.new-3.ensures i;
      queues = c.new-4.result;
    } in
    ap network (sym is) ∙ blank_network c.new-4.result
