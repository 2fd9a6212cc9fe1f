use Rattle.std.proofs.Common.{rules, ◌≡◌, Some, sym, ap, subst, ◌∙◌}
use Rattle.std.specs.Cmp.{nat_cmp_is}
use Rattle.std.specs.declared.cmp.Ordering.TheVariants.{Less}
use Rattle.session_queue.specs.Telling.{prefix_of}
use Rattle.cell_engine.specs.Cells.{route_of}
use Rattle.cell_engine.specs.State.{cell_at}
use Rattle.cell_engine.proofs.Taken.{cell_in_order}
use Rattle.cell_engine.specs.Senders.{AreInOrder}
use Rattle.room.specs.Differences.{first_difference}
use Rattle.room.proofs.Differing.{same_lists, other_route, same_below}
use Rattle.room.proofs.Taken.{route_in_network, same_cell}
use Rattle.room.proofs.room.Room.newer_route.Goals as goal

pub returns-in_default-clause-none : goal.returns-in_default-clause-none
returns-in_default-clause-none g c = λ none.
    let e = c.args.self.now.engine in
    let x = c.args.job.now in
    let d = x.direction in
    let had : c.received-had.result.now ≡ x.cell.received = search rules in
    let now : c.received_at-now.result.now ≡ (cell_at d.to (prefix_of x.head) e.tables).received = search rules in
    let lists = sym had ∙ same_lists c.received-had.result.now c.received_at-now.result.now
    (sym c.first_difference.ensures ∙ c.in_default.is) ∙ now in
    record {
      version = c.requires.version;
      site = c.requires.site;
      head = sym c.requires.head;
      cell = same_cell e c.engine_facts.ensures.sound x c.received-had.ensures.decided c.requires.site lists;
    }

pub returns-clause-newer : goal.returns-clause-newer
returns-clause-newer g c =
    let e = c.args.self.now.engine in
    let x = c.args.job.now in
    let d = x.direction in
    let p = prefix_of x.head in
    let u = c.in-Some.peer in
    let sound = c.engine_facts.ensures.sound in
    let had : c.received-had.result.now ≡ x.cell.received = search rules in
    let now : c.received_at-now.result.now ≡ (cell_at d.to p e.tables).received = search rules in
    let left : c.in_ok-route_of.field-0 ≡ route_of x.cell.received u = c.in_ok-route_of.ensures
    ∙ ap (λ l. route_of l u) had in
    let right : c.in_ok-route_of-2.field-0 ≡ route_of (cell_at d.to p e.tables).received u = c.in_ok-route_of-2.ensures
    ∙ ap (λ l. route_of l u) now in
    let had_order : AreInOrder c.received-had.result.now = subst AreInOrder (sym had) c.received-had.ensures.order in
    let now_order : AreInOrder c.received_at-now.result.now =
    subst AreInOrder (sym now) (cell_in_order e sound d.to p) in
    let first : first_difference c.received-had.result.now c.received_at-now.result.now ≡ Some u =
    sym c.first_difference.ensures ∙ c.in-Some.is in
    let other = other_route c.received-had.result.now c.received_at-now.result.now had_order now_order u first in (
      c.requires.version,
      c.requires.site,
      c.requires.head,
      left,
      right ∙ sym (route_in_network e sound d.to p u),
      λ same. other (sym c.in_ok-route_of.ensures ∙ same ∙ c.in_ok-route_of-2.ensures),
      λ v less.
          ap (λ l. route_of l v) (sym had)
          ∙ same_below c.received-had.result.now c.received_at-now.result.now had_order now_order u v first
          (sym (nat_cmp_is v.0 u.0 Less less))
          ∙ ap (λ l. route_of l v) now
          ∙ sym (route_in_network e sound d.to p v),
    )
