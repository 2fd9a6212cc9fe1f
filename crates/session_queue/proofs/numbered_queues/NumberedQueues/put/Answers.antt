use Rattle.std.proofs.Common.{◌≡◌, ◌+◌, ◌-◌, ◌≤◌, [], ◌∷◌, ◌++◌, length, max, Result, Ok, Err, OnErr, Some, None, sym, ap, subst, ◌∙◌, arith}
use Rattle.std.specs.BTreeMap.{insert_entry}
use Rattle.session_queue.specs.Lines.{direction_cmp}
use Rattle.session_queue.specs.Tidy.{one_if_any, IsTidy}
use Rattle.session_queue.proofs.Places.{key, placed, added, unwritten, queue_here, spare_here, others_keep, queue_held, spare_held, queue_from}
use Rattle.session_queue.proofs.Tidiness.{full_small, longer_tidy, added_tidy}
use Rattle.session_queue.proofs.numbered_queues.NumberedQueues.put.Goals as goal

if_err : {T E P : Type 0} (r : Result T E) → P → OnErr r P
if_err (Ok u) p = tt
if_err (Err e) p = p

pub prove-unreachable-requires : goal.prove-unreachable-requires
prove-unreachable-requires c =
    let small : c.self.inside.full ≤ length c.self.inside.queues.entries = full_small _ _ c.self.invariant in
    let len : c.len.result ≡ length c.self.inside.queues.entries = c.len.ensures.len in
    omega (arith, small, len, c.if-prove.true)

-- WHERE THE DIRECTION HAS A QUEUE

pub invariant_of-self : goal.invariant_of-self
invariant_of-self c =
    let same = unwritten _ _ c.self.inside.queues.entries _ _ (λ i. c.self.inside.queues.entries) c.in-Some.queue.now
    c.put.new.self c.in-Some.ensures.value (c.get_mut.follows.holds c.put.new.self).0 c.in_err-put.ensures.err in
    subst (λ q. IsTidy q c.self.inside.full c.self.inside.resting) (sym same) c.self.invariant

pub returns-in_err-put-clause-others : goal.returns-in_err-put-clause-others
returns-in_err-put-clause-others c =
    let b = placed _ _ _ _ _ c.in-Some.queue.now c.put.new.self c.self.view_is c.in-Some.ensures.value
    (c.get_mut.follows.holds c.put.new.self).0 in
    b.others

pub returns-in_err-put-clause-err : goal.returns-in_err-put-clause-err
returns-in_err-put-clause-err c =
    if_err c.from_residual.result
    (unwritten _ _ _ _ _ c.self.view_is c.in-Some.queue.now c.put.new.self c.in-Some.ensures.value
    (c.get_mut.follows.holds c.put.new.self).0 c.in_err-put.ensures.err)

pub invariant_of-self-in-Some : goal.invariant_of-self-in-Some
invariant_of-self-in-Some c =
    longer_tidy _ _ _ _ c.in-Some.queue.now c.put.new.self c.args.message _ _ _ c.self.invariant c.in-Some.ensures.value
    (c.get_mut.follows.holds c.put.new.self).0 c.in_ok-put.ensures.messages
    c.is_empty-was_empty.ensures c.from.ensures

pub returns-in-Some-clause-queue : goal.returns-in-Some-clause-queue
returns-in-Some-clause-queue c =
    let v = c.in-Some.queue.now in
    let w = c.put.new.self in
    let b = placed _ _ _ _ _ v w c.self.view_is c.in-Some.ensures.value (c.get_mut.follows.holds w).0 in
    queue_from _ _ _ _ _ v w c.self.view_is c.in-Some.ensures.value b (λ ms. ms ++ c.args.message
    ∷ []) c.in_ok-put.ensures.messages

pub returns-in-Some-clause-spare : goal.returns-in-Some-clause-spare
returns-in-Some-clause-spare c =
    let v = c.in-Some.queue.now in
    let w = c.put.new.self in
    let b = placed _ _ _ _ _ v w c.self.view_is c.in-Some.ensures.value (c.get_mut.follows.holds w).0 in
    let before = spare_held _ _ _ _ c.self.view_is (Some v) c.in-Some.ensures.value in
    ap (λ s. s + 1) b.spare ∙ c.in_ok-put.ensures.spare ∙ ap (max 1) (sym before)

pub returns-in-Some-clause-others : goal.returns-in-Some-clause-others
returns-in-Some-clause-others c =
    let b = placed _ _ _ _ _ c.in-Some.queue.now c.put.new.self c.self.view_is c.in-Some.ensures.value
    (c.get_mut.follows.holds c.put.new.self).0 in
    b.others

-- WHERE IT HAS NONE

pub invariant_of-self-2 : goal.invariant_of-self-2
invariant_of-self-2 c =
    let w = c.push.new.self in
    let before = ap (λ m. insert_entry direction_cmp m.entries (key c.args.from c.args.to) w)
    c.get_mut.follows.holds-at-none in
    let messages : w.messages ≡ c.args.message ∷ [] = ap (λ u. u.messages) c.push.ensures
    ∙ ap (λ u. u.messages ++ c.args.message ∷ []) c.in_ok-queue.ensures in
    let long : length w.messages ≡ 1 = ap length messages in
    let one : one_if_any w.messages ≡ 1 = ap one_if_any messages in
    added_tidy c.args.from c.args.to c.self.inside.queues.entries _ _ _ c.self.invariant w c.in_default.ensures.value
    (c.in_ok-insert.ensures.entries ∙ before) c.in_ok-insert.ensures.ordered
    (added _ _ _ _ _ (ap (λ m. m.entries) c.get_mut.follows.holds-at-none) w c.in_ok-insert.ensures.updates.0)
    (omega (arith, long)) (omega (arith, one))

pub returns-clause-queue : goal.returns-clause-queue
returns-clause-queue c =
    let w = c.push.new.self in
    let whole = ap (λ m. m.entries) c.get_mut.follows.holds-at-none ∙ c.self.view_is in
    let h = added _ _ _ _ _ whole w c.in_ok-insert.ensures.updates.0 in
    let messages : w.messages ≡ c.args.message ∷ [] = ap (λ u. u.messages) c.push.ensures
    ∙ ap (λ u. u.messages ++ c.args.message ∷ []) c.in_ok-queue.ensures in
    queue_here _ _ _ _ _ h ∙ messages
    ∙ ap (λ ms. ms ++ c.args.message ∷ []) (sym (queue_held _ _ _ _ c.self.view_is None c.in_default.ensures.value))

pub returns-clause-spare : goal.returns-clause-spare
returns-clause-spare c =
    let w = c.push.new.self in
    let whole = ap (λ m. m.entries) c.get_mut.follows.holds-at-none ∙ c.self.view_is in
    let h = added _ _ _ _ _ whole w c.in_ok-insert.ensures.updates.0 in
    let none : w.spare ≡ 0 = ap (λ u. u.spare) c.push.ensures ∙ ap (λ u. u.spare - 1) c.in_ok-queue.ensures in
    let before = spare_held _ _ _ _ c.self.view_is None c.in_default.ensures.value in
    let after = spare_here _ _ _ _ _ h in
    omega (arith, after, none, before)

pub returns-clause-others : goal.returns-clause-others
returns-clause-others c =
    let whole = ap (λ m. m.entries) c.get_mut.follows.holds-at-none ∙ c.self.view_is in
    others_keep _ _ _ _ _ (added _ _ _ _ _ whole c.push.new.self c.in_ok-insert.ensures.updates.0)
