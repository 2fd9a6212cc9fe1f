use Rattle.std.proofs.Common.{◌≡◌, ◌==◌, ℕ, Bool, ◌+◌, ◌-◌, ◌<◌, ◌≤◌, sym, ◌∙◌, ap, length, ◌++◌, ◌∷◌, [], Option, Some, None, arith}
use Rattle.std.specs.Map.{set_value}
use Rattle.net_prefix.specs.declared.addr.Addr.{Addr}
use Rattle.session_queue.specs.declared.direction.Direction.{Direction}
use Rattle.session_queue.specs.declared.numbered.Numbered.{Numbered}
use Rattle.session_queue.specs.Lines.{Waiting, Lines, messages_at, spare_in, waiting_at, KeepsOtherLines}
use Rattle.session_queue.proofs.Places.{at, Changes, put, queue_here, spare_here, others_keep, queue_held, spare_held}
use Rattle.session_queue.proofs.Tidiness.{full_small, longer_tidy}
use Rattle.session_queue.specs.Tidy.{IsTidy}
use Rattle.std.specs.Int.{from_bool}
use Rattle.session_queue.proofs.numbered_queues.NumberedQueues.push.Goals as goal

-- what stands at the direction is w, which is v with m at its end
module _ (from to : Addr) (p q r : Lines Numbered) (v w : Waiting Numbered) (m : Numbered) (whole : p ≡ q)
    (found : Some v ≡ waiting_at p from to) (is : r ≡ set_value (at from to) p w)
    (pushed : w ≡ record { messages = v.messages ++ m ∷ []; spare = v.spare - 1 }) where
  changed : Changes from to q r (Some w)
  changed = put from to p q r whole v w found is

  queue_pushed : messages_at r from to ≡ messages_at q from to ++ m ∷ []
  queue_pushed = queue_here from to q r (Some w) changed ∙ ap (λ u. u.messages) pushed
      ∙ ap (λ ms. ms ++ m ∷ []) (sym (queue_held from to p q whole (Some v) found))

  spare_pushed : 0 < spare_in q from to → spare_in r from to + 1 ≡ spare_in q from to
  spare_pushed room =
      let before : spare_in q from to ≡ v.spare = spare_held from to p q whole (Some v) found in
      let after : spare_in r from to ≡ w.spare = spare_here from to q r (Some w) changed in
      let less : w.spare ≡ v.spare - 1 = ap (λ u. u.spare) pushed in
      omega (arith, room, before, after, less)

  others_pushed : KeepsOtherLines from to q r
  others_pushed = others_keep from to q r (Some w) changed

  tidy_pushed : {resting : Option Direction} (full more : ℕ) (b : Bool) → IsTidy p full resting →
      b ≡ (length v.messages == 0) → more ≡ from_bool b → IsTidy r (full + more) resting
  tidy_pushed full more b tidy empty counts = longer_tidy from to p r v w m full more b tidy found is
      (ap (λ u. u.messages) pushed) empty counts

pub push-requires : goal.push-requires
push-requires c =
    let room : 0 < spare_in c.args.self.now c.args.from c.args.to = c.requires in
    let before : spare_in c.args.self.now c.args.from c.args.to ≡ c.in-Some.queue.now.spare =
    spare_held _ _ _ _ c.self.view_is (Some c.in-Some.queue.now) c.in-Some.ensures.value in
    omega (arith, room, before)

pub returns-clause-queue : goal.returns-clause-queue
returns-clause-queue c = queue_pushed _ _ _ _ _ _ _ _ c.self.view_is c.in-Some.ensures.value
    (c.get_mut.follows.holds c.push.new.self).0 c.push.ensures

pub returns-clause-spare : goal.returns-clause-spare
returns-clause-spare c = spare_pushed _ _ _ _ _ _ _ _ c.self.view_is c.in-Some.ensures.value
    (c.get_mut.follows.holds c.push.new.self).0 c.push.ensures c.requires

pub returns-clause-others : goal.returns-clause-others
returns-clause-others c = others_pushed _ _ _ _ _ _ _ _ c.self.view_is c.in-Some.ensures.value
    (c.get_mut.follows.holds c.push.new.self).0 c.push.ensures

pub prove-unreachable-requires : goal.prove-unreachable-requires
prove-unreachable-requires c =
    let small : c.self.inside.full ≤ length c.self.inside.queues.entries = full_small _ _ c.self.invariant in
    let len : c.len.result ≡ length c.self.inside.queues.entries = c.len.ensures.len in
    omega (arith, small, len, c.if-prove.true)

pub unreachable-requires : goal.unreachable-requires
unreachable-requires c =
    let room : 0 < spare_in c.args.self.now c.args.from c.args.to = c.requires in
    let before : spare_in c.args.self.now c.args.from c.args.to ≡ 0 =
    spare_held _ _ _ _ c.self.view_is None c.in_default.ensures.value in
    omega (arith, room, before)

pub invariant_of-self : goal.invariant_of-self
invariant_of-self c = tidy_pushed _ _ _ _ _ _ _ _ c.self.view_is c.in-Some.ensures.value
    (c.get_mut.follows.holds c.push.new.self).0 c.push.ensures _ _ _ c.self.invariant c.is_empty.ensures c.from.ensures
