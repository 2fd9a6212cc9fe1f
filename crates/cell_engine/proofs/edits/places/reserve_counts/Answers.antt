use Rattle.std.proofs.Common.{◌≡◌, ◌≤◌, ℕ, map, true, sym, subst, ◌∙◌, arith, [], ◌∷◌}
use Rattle.std.proofs.lemmas.Bool.{and_parts}
use Rattle.std.proofs.lemmas.List.{map-append}
use Rattle.net_prefix.specs.declared.addr.Addr.{Addr}
use Rattle.net_prefix.specs.Address.{same_addr}
use Rattle.session_queue.specs.declared.direction.Direction.{Direction}
use Rattle.session_queue.specs.Waiting.{queue_at, spare_at, same_direction}
use Rattle.cell_engine.proofs.Offers.{same_addr_true}
use Rattle.cell_engine.proofs.Pushes.{queue_kept, spare_grows}
use Rattle.cell_engine.specs.Counts.{count_at}
use Rattle.cell_engine.proofs.Counts.{counts_covered}
use Rattle.cell_engine.proofs.edits.places.reserve_counts.Goals as goal

pub loop-direction-preserved : goal.loop-direction-preserved
loop-direction-preserved c =
    let d = c.in-Some.direction.now in
    let n = c.in-Some.count.now in
    let q = c.loop-direction.queues in
    let r = c.reserve.new.self in
    let before = map {B = Direction × ℕ} (λ e. (e.0.now, e.1.now)) c.loop-direction.yielded in
    let same : (f t : Addr) → queue_at r f t ≡ queue_at q f t =
    queue_kept d.from d.to q r c.reserve.ensures.others c.reserve.ensures.queue in
    let grows : (f t : Addr) → spare_at q f t ≤ spare_at r f t =
    spare_grows d.from d.to q r c.reserve.ensures.others n c.in_ok-reserve.ensures.spare in
    let here : n ≤ spare_at r d.from d.to = omega (arith, c.in_ok-reserve.ensures.spare) in
    let covers : (f t : Addr) → same_direction d.from d.to f t ≡ true → n ≤ spare_at r f t =
    λ f t is. let parts = and_parts (same_addr f d.from) (same_addr t d.to) is in
    subst (λ x. n ≤ spare_at r x t) (sym (same_addr_true f d.from parts.0))
    (subst (λ x. n ≤ spare_at r d.from x) (sym (same_addr_true t d.to parts.1)) here) in (
      λ f t. same f t ∙ c.loop-direction.invariant.0 f t,
      λ f t.
          let was = c.loop-direction.invariant.1 f t in
          let more = grows f t in
          subst (λ l. count_at l f t ≤ spare_at r f t)
          (sym (map-append (λ e. (e.0.now, e.1.now)) c.loop-direction.yielded
          ((c.in-Some.direction, c.in-Some.count) ∷ [])))
          (counts_covered before d n f t (spare_at r f t) (omega (arith, was, more)) (covers f t)),
      c.reserve.ensures.admitted ∙ c.loop-direction.invariant.2,
    )
