use Rattle.std.proofs.Common.{◌≡◌, true, is_some, ap, sym, subst, ◌∙◌}
use Rattle.net_conf.specs.Configuration.{has_session}
use Rattle.net_conf.specs.Costs.{is_up}
use Rattle.reference_machine.specs.Network.{messages_in}
use Rattle.reference_machine.specs.Machine.{head_step}
use Rattle.cell_engine.specs.Cells.{Outcome}
use Rattle.cell_engine.specs.State.{State, IsConsistent, network}
use Rattle.cell_engine.specs.Changes.{AreOverSessionsUp}
use Rattle.cell_engine.specs.Reporting.{AreOfPrefixes}
use Rattle.cell_engine.proofs.Directions.{session_if_up}
use Rattle.cell_engine.proofs.Matches.{prefixes_with_cell}
use Rattle.cell_engine.specs.RouterTables.{value_at}
use Rattle.cell_engine.specs.Deliveries.{IsOfHead}
use Rattle.cell_engine.proofs.Delivered.{sound_after_head, next_after_head, ups_after_head}
use Rattle.cell_engine.proofs.state.State.take.Goals as goal

pub invariant_of-self : goal.invariant_of-self
invariant_of-self g c =
    let e : State = record {
      conf = c.self.inside.conf;
      tables = c.self.inside.tables;
      directions = c.self.inside.directions;
      queues = c.self.inside.queues;
    } in
    let o : Outcome = record { cell = c.outcome.inside.cell; sends = c.outcome.inside.sends.items } in
    let d = c.args.direction in
    let p = c.args.prefix in
    let head : IsOfHead e d p o = subst (λ n. IsOfHead n d p o) (sym c.self.view_is)
    (subst (IsOfHead c.args.self.now d p) (sym c.outcome.view_is) c.requires.head) in
    let up : is_up e.conf d.from d.to ≡ true = ap (λ n. is_up n.conf d.from d.to) c.self.view_is ∙ c.requires.up in
    let there : is_some (value_at d.to p e.tables) ≡ true = ap (λ n. is_some (value_at d.to p n.tables)) c.self.view_is
    ∙ c.requires.room.cell in (
      subst (λ ts. IsConsistent (record e { tables = ts; queues = c.push_all.new.queues }))
          (sym c.in-Ok.ensures.replaced)
          (sound_after_head e c.self.invariant.0 c.facts.ensures.configured d p o head c.pop.new.self
          c.push_all.new.queues c.pop.ensures.queue c.pop.ensures.others c.push_all.ensures.queue),
      subst AreOfPrefixes (sym c.in-Ok.ensures.replaced)
          (prefixes_with_cell d.to p o.cell e.tables (c.self.invariant.1 d.to p there) c.self.invariant.1),
      subst (AreOverSessionsUp e.conf) (sym c.in-Ok.ensures.replaced)
          (ups_after_head e c.self.invariant.0 c.facts.ensures.configured d p o head c.pop.new.self
          c.push_all.new.queues c.pop.ensures.queue c.pop.ensures.others c.push_all.ensures.queue up
          c.self.invariant.2),
    )

pub returns : goal.returns
returns g c =
    let e : State = record {
      conf = c.self.inside.conf;
      tables = c.self.inside.tables;
      directions = c.self.inside.directions;
      queues = c.self.inside.queues;
    } in
    let o : Outcome = record { cell = c.outcome.inside.cell; sends = c.outcome.inside.sends.items } in
    let d = c.args.direction in
    let p = c.args.prefix in
    let head : IsOfHead e d p o = subst (λ n. IsOfHead n d p o) (sym c.self.view_is)
    (subst (IsOfHead c.args.self.now d p) (sym c.outcome.view_is) c.requires.head) in
    let session : has_session e.conf d.from d.to ≡ true =
    session_if_up e.conf d.from d.to (ap (λ n. is_up n.conf d.from d.to) c.self.view_is ∙ c.requires.up) in
    ap (λ ts. network (record e { tables = ts; queues = c.push_all.new.queues })) c.in-Ok.ensures.replaced
    ∙ next_after_head e c.self.invariant.0 c.facts.ensures.configured d p o head c.pop.new.self c.push_all.new.queues
    c.pop.ensures.queue c.pop.ensures.others c.push_all.ensures.queue session
    ∙ (λ i. (head_step (network (c.self.view_is i)) d (messages_in (network (c.self.view_is i)).queues d)).next)
