use Rattle.std.proofs.Common.{◌≡◌, ◌≤◌, List, length, option_copied, Ok, IfOk, is_some, ap, sym, subst, ◌∙◌}
use Rattle.net_prefix.specs.declared.addr.Addr.{Addr}
use Rattle.session_queue.specs.declared.message.Message.{Message}
use Rattle.route_select.specs.declared.candidate.Source.TheVariants.{Peer as FromPeer}
use Rattle.route_select.specs.Selection.{best_of, standing_from}
use Rattle.cell_engine.specs.Cells.{sends_of}
use Rattle.cell_engine.specs.InPlace.{forgotten, put_back}
use Rattle.cell_engine.specs.Sending.{told}
use Rattle.cell_engine.proofs.Seen.{when_ok}
use Rattle.cell_engine.proofs.InPlace.{best_then, known_aside, restored, stands_then}
use Rattle.cell_engine.proofs.route_cell.in_place.receive_and_decide.Goals as goal

pub made_ready-ready-requires : goal.made_ready-ready-requires
made_ready-ready-requires g c =
    let site = c.args.site.now in
    let u = c.args.arrival.now.direction.from in
    let m = c.args.arrival.now.message.now in
    let old = g.S.Chosen.standings c.args.chosen.now in
    let had = c.as_ref.ensures.value ∙ c.in_ok-best.ensures ∙ ap best_of c.requires.stands in
    let has = c.best.ensures ∙ ap best_of c.in_ok-set_aside.ensures.ok
    ∙ best_then site u m c.args.received.now c.requires.peers c.requires.order old c.requires.stands in
    when_ok c.sends_at-sends.result _ _ (λ sends is. subst
    (λ (l : List (Addr × Message)). (t : Addr) → length (told t l) ≤ 1)
    (sym (is ∙ (λ i. sends_of site site (c.prefix.ensures i) (had i) (has i)))) c.requires.one)
    c.sends_at-sends.ensures

pub put_back-requires-clause-known : goal.put_back-requires-clause-known
put_back-requires-clause-known g c standing is =
    let site = c.args.site.now in
    let u = c.args.arrival.now.direction.from in
    let m = c.args.arrival.now.message.now in
    let old = g.S.Chosen.standings c.args.chosen.now in
    ap (λ s. is_some (standing_from s (FromPeer u))) c.in_ok-set_aside.ensures.ok
    ∙ known_aside site u m old standing (sym c.in_ok-had.ensures.known ∙ is)

pub returns-in-Ok-clause-stands : goal.returns-in-Ok-clause-stands
returns-in-Ok-clause-stands g c =
    let site = c.args.site.now in
    let u = c.args.arrival.now.direction.from in
    let m = c.args.arrival.now.message.now in
    let old = g.S.Chosen.standings c.args.chosen.now in
    c.forget.ensures
    ∙ ap (forgotten u m) c.in_ok-set_aside.ensures.ok
    ∙ stands_then site u m c.args.received.now c.requires.peers c.requires.order old c.requires.stands

pub returns-in-Ok-clause-sends : goal.returns-in-Ok-clause-sends
returns-in-Ok-clause-sends g c =
    let site = c.args.site.now in
    let u = c.args.arrival.now.direction.from in
    let m = c.args.arrival.now.message.now in
    let old = g.S.Chosen.standings c.args.chosen.now in
    let had = c.as_ref.ensures.value ∙ c.in_ok-best.ensures ∙ ap best_of c.requires.stands in
    let has = c.best.ensures ∙ ap best_of c.in_ok-set_aside.ensures.ok
    ∙ best_then site u m c.args.received.now c.requires.peers c.requires.order old c.requires.stands in
    subst (λ r. IfOk r (λ sends. sends.items ≡ sends_of site site c.prefix.result (option_copied c.as_ref.result)
    (option_copied c.best.result)))
    (subst (λ r. IfOk r (λ ready. c.sends_at-sends.result ≡ Ok ready)) c.in-Ok.ensures.ready
    c.made_ready-ready.ensures.sends) c.sends_at-sends.ensures
    ∙ (λ i. sends_of site site (c.prefix.ensures i) (had i) (has i))

pub returns-in-Err-clause-stood : goal.returns-in-Err-clause-stood
returns-in-Err-clause-stood g c =
    let site = c.args.site.now in
    let u = c.args.arrival.now.direction.from in
    let m = c.args.arrival.now.message.now in
    let old = g.S.Chosen.standings c.args.chosen.now in
    c.put_back.ensures
    ∙ (λ i. put_back (FromPeer u) (c.in_ok-had.ensures.known i) (c.in_ok-set_aside.ensures.ok i))
    ∙ restored site u m old
