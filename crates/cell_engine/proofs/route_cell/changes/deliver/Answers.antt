use Rattle.std.proofs.Common.{◌≡◌, ap, subst, ◌∙◌}
use Rattle.session_queue.specs.Telling.{prefix_of}
use Rattle.route_select.specs.Selection.{best_of}
use Rattle.cell_engine.specs.Cells.{with_news, effective, standings_by, sends_of, delivered}
use Rattle.cell_engine.specs.Senders.{AreInOrder}
use Rattle.cell_engine.specs.Updates.{standings_after}
use Rattle.cell_engine.proofs.Effective.{compared_is, compares_at}
use Rattle.cell_engine.proofs.StandingsAfter.{compares_as, taken}
use Rattle.cell_engine.proofs.route_cell.changes.deliver.Goals as goal

pub choice_at-requires : goal.choice_at-requires
choice_at-requires g c =
    let site = c.args.site.now in
    let p = prefix_of c.args.message.now in
    let held = c.args.cell.now.received in
    compares_at (g.S.Chosen.standings c.cell.inside.chosen) (standings_by site p held) site.med_always
    (ap (λ h. h.standings) c.cell.view_is ∙ ap (λ h. h.standings) c.requires.decided) (compares_as site p held)

pub returns : goal.returns
unfolding delivered
returns g c =
    let site = c.args.site.now in
    let u = c.args.from in
    let m = c.args.message.now in
    let held = c.args.cell.now.received in
    let routes = c.in_ok-received.ensures.news ∙ ap (λ h. with_news u m h.received) c.cell.view_is in
    let order : AreInOrder held = subst AreInOrder (ap (λ h. h.received) c.cell.view_is) c.with_news.ensures.order in
    let same = ap (λ h. h.standings) c.cell.view_is ∙ ap (λ h. h.standings) c.requires.decided in
    let stood = compared_is (g.S.Chosen.standings c.cell.inside.chosen)
    (standings_by site (prefix_of m) held) site.med_always same (compares_as site (prefix_of m) held) in
    let stands : g.S.Chosen.standings c.take.new.chosen ≡ standings_by site (prefix_of m) (with_news u m held) =
    c.in_ok-take.ensures ∙ ap (standings_after site u m) (c.in_ok-chosen.ensures ∙ stood)
    ∙ taken site u m held c.requires.peers order in
    let has = c.best-2.ensures ∙ ap (λ s. best_of (effective s)) stands in
    let sends = c.in_ok-sends.ensures ∙ (λ i. sends_of site site (c.prefix.ensures i) (c.best.ensures i) (has i)) in
    λ i. record { cell = record { received = routes i; standings = effective (stands i) }; sends = sends i }
