use Rattle.std.proofs.Common.{◌≤◌, ap, sym, subst, ◌∙◌, ◌++◌, length, List, arith}
use Rattle.session_queue.specs.Waiting.{queue_at, spare_at, IsAdmittedBy}
use Rattle.net_prefix.specs.declared.addr.Addr.{Addr}
use Rattle.session_queue.specs.declared.message.Message.{Message}
use Rattle.cell_engine.specs.Sending.{told, told_from}
use Rattle.cell_engine.proofs.Pushes.{pushed_queue, pushed_room, pushed_spare, place_for}
use Rattle.std.proofs.lemmas.List.Elements.{All-head, All-tail}
use Rattle.cell_engine.specs.Admitting.{AreAdmitted}
use Rattle.cell_engine.proofs.sending.push_all.Goals as goal

pub push-requires-clause-admitted : goal.push-requires-clause-admitted
push-requires-clause-admitted c =
    let e : Addr × Message = (c.in-Some.peer, c.in-Some.message) in
    All-head (λ s. IsAdmittedBy c.loop-peer.queues.admitted s.1) e c.next.new.self.rest.items
    (subst (AreAdmitted c.loop-peer.queues.admitted) c.in-Some.ensures.steps.0 c.loop-peer.invariant.5)

pub push-requires-clause-room : goal.push-requires-clause-room
push-requires-clause-room c =
    let e : Addr × Message = (c.in-Some.peer, c.in-Some.message) in
    place_for c.args.router e c.next.new.self.rest.items c.loop-peer.queues
    (subst (λ l. length (told c.in-Some.peer l) ≤ spare_at c.loop-peer.queues c.args.router c.in-Some.peer)
    c.in-Some.ensures.steps.0 (c.loop-peer.invariant.3 c.in-Some.peer))

pub loop-peer-preserved : goal.loop-peer-preserved
loop-peer-preserved c =
    let e : Addr × Message = (c.in-Some.peer, c.in-Some.message) in
    let rest : List (Addr × Message) = c.next.new.self.rest.items in
    let r = c.args.router in
    let q = c.loop-peer.queues in
    let is = c.in-Some.ensures.steps.0 in (
      tt,
      tt,
      λ f t. pushed_queue r e rest q c.push.new.self c.push.ensures.others c.push.ensures.queue f t
          ∙ ap (λ l. queue_at q f t ++ told_from r l f t) (sym is) ∙ c.loop-peer.invariant.2 f t,
      λ t. pushed_room r e rest q c.push.new.self c.push.ensures.others c.push.ensures.spare t
          (subst (λ l. length (told t l) ≤ spare_at q r t) is (c.loop-peer.invariant.3 t)),
      λ f t. let before = c.loop-peer.invariant.4 f t in let more = ap (λ l. length (told_from r l f t)) is in
          let step = pushed_spare r e rest q c.push.new.self c.push.ensures.others c.push.ensures.spare f t in
          omega (arith, before, more, step),
      subst (λ a. AreAdmitted a rest) (sym c.push.ensures.admitted)
          (All-tail (λ s. IsAdmittedBy q.admitted s.1) e rest
          (subst (AreAdmitted q.admitted) is c.loop-peer.invariant.5)),
      c.push.ensures.admitted ∙ c.loop-peer.invariant.6,
    )
