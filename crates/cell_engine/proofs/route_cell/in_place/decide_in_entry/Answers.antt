use Rattle.std.proofs.Common.{◌≤◌, List, length, Result, Ok, Err, OnErr, ap, sym, subst, ◌∙◌}
use Rattle.net_prefix.specs.declared.addr.Addr.{Addr}
use Rattle.session_queue.specs.declared.message.Message.{Message}
use Rattle.session_queue.specs.Telling.{prefix_of}
use Rattle.cell_engine.specs.Cells.{Cell, effective, standings_by}
use Rattle.cell_engine.specs.InPlace.{sends_with}
use Rattle.cell_engine.specs.Sending.{told}
use Rattle.cell_engine.specs.Updates.{ComparesAt}
use Rattle.cell_engine.proofs.Effective.{compared_is, compares_at}
use Rattle.cell_engine.proofs.InPlace.{sends_delivered}
use Rattle.cell_engine.proofs.Seen.{when_ok}
use Rattle.cell_engine.proofs.StandingsAfter.{compares_as}
use Rattle.cell_engine.proofs.route_cell.in_place.decide_in_entry.Goals as goal

pub begin-requires : goal.begin-requires
begin-requires g c =
    let site = c.args.site.now in
    let p = prefix_of c.args.message.now in
    let held = c.args.cell.now.received in
    compares_at (g.S.Chosen.standings c.cell.inside.chosen) (standings_by site p held) site.med_always
    (ap (λ h. h.standings) c.cell.view_is ∙ ap (λ h. h.standings) c.requires.decided) (compares_as site p held)

pub receive_and_decide-requires-clause-stands : goal.receive_and_decide-requires-clause-stands
receive_and_decide-requires-clause-stands g c =
    let site = c.args.site.now in
    let p = prefix_of c.args.message.now in
    let held = c.args.cell.now.received in
    let same = ap (λ h. h.standings) c.cell.view_is ∙ ap (λ h. h.standings) c.requires.decided in
    c.begin.ensures
    ∙ compared_is (g.S.Chosen.standings c.cell.inside.chosen) (standings_by site p held) site.med_always same
    (compares_as site p held)
    ∙ sym (ap (λ (h : Cell). standings_by site p h.received) c.cell.view_is)

pub receive_and_decide-requires-clause-one : goal.receive_and_decide-requires-clause-one
receive_and_decide-requires-clause-one g c t =
    let site = c.args.site.now in
    let u = c.args.direction.from in
    let m = c.args.message.now in
    subst (λ (l : List (Addr × Message)). length (told t l) ≤ 1)
    (sends_delivered site c.args.cell.now u m c.requires.decided
    ∙ sym (ap (λ (h : Cell). sends_with site u m h.received) c.cell.view_is)) (c.requires.one t)

pub returns-clause-sends : goal.returns-clause-sends
returns-clause-sends g c =
    let site = c.args.site.now in
    let u = c.args.direction.from in
    let m = c.args.message.now in
    when_ok c.receive_and_decide.result _ _ (λ sends is. is ∙ ap (λ (h : Cell). sends_with site u m h.received) c.cell.view_is
    ∙ sym (sends_delivered site c.args.cell.now u m c.requires.decided)) c.receive_and_decide.ensures.sends

both_err : {A E P Q R : Type 0} (r : Result A E) → (P → Q → R) → OnErr r P → OnErr r Q → OnErr r R
both_err (Ok a) f p q = tt
both_err (Err e) f p q = f p q

pub returns-clause-same : goal.returns-clause-same
returns-clause-same g c =
    let site = c.args.site.now in
    let p = prefix_of c.args.message.now in
    let held = c.args.cell.now.received in
    let compares : ComparesAt site.med_always (g.S.Chosen.standings c.cell.inside.chosen) =
    compares_at (g.S.Chosen.standings c.cell.inside.chosen) (standings_by site p held) site.med_always
    (ap (λ h. h.standings) c.cell.view_is ∙ ap (λ h. h.standings) c.requires.decided) (compares_as site p held) in
    both_err c.receive_and_decide.result (λ stood kept.
    let stands = ap effective (stood ∙ c.begin.ensures) ∙ sym compares in
    (λ i. record { received = kept i; standings = stands i })
    ∙ c.cell.view_is) c.receive_and_decide.ensures.stood c.receive_and_decide.ensures.kept
