use Rattle.std.proofs.Common.{◌≡◌, ◌==◌, ℕ, ◌+◌, Bool, not, [], length, None, refl, ap, ◌∙◌, arith}
use Rattle.std.specs.Int.{from_bool}
use Rattle.session_queue.specs.declared.numbered.Numbered.{Numbered}
use Rattle.session_queue.specs.Lines.{Waiting, messages_at}
use Rattle.session_queue.specs.Tidy.{one_if_any}
use Rattle.session_queue.proofs.Places.{placed, removed, queue_held, spare_from}
use Rattle.session_queue.proofs.Tidiness.{less_fits, kept_tidy, removed_tidy, one_if_all}
use Rattle.session_queue.proofs.numbered_queues.NumberedQueues.clear.Goals as goal

cleared_counts : (v w : Waiting Numbered) (b : Bool) (less : ℕ) → w ≡ record v { messages = [] } →
    b ≡ (length v.messages == 0) → less ≡ from_bool (not b) → less + one_if_any w.messages ≡ one_if_any v.messages
cleared_counts v w b less clear empty is =
    let none = ap (λ u. one_if_any u.messages) clear in
    let all = one_if_all v.messages b less empty is in
    omega (arith, none, all)

pub returns-in_default-clause-queue : goal.returns-in_default-clause-queue
returns-in_default-clause-queue c =
    let none : messages_at c.args.self.now c.args.from c.args.to ≡ [] =
    queue_held _ _ _ _ c.self.view_is None c.in_default.ensures.value in
    ap (λ m. messages_at m.entries c.args.from c.args.to) c.get_mut.follows.holds-at-none
    ∙ ap (λ q. messages_at q c.args.from c.args.to) c.self.view_is ∙ none

pub overflow_sub-self : goal.overflow_sub-self
overflow_sub-self c =
    let v = c.in-Some.queue.now in
    less_fits _ _ _ [] [] v (record v { messages = [] }) _ _ c.self.invariant c.in-Some.ensures.value
    (cleared_counts v _ _ _ refl c.is_empty.ensures c.from.ensures)

pub returns-then-is_blank : goal.returns-then-is_blank
returns-then-is_blank c =
    let b = removed _ _ _ _ c.remove.new.self.entries c.in-Some.queue.now c.clear.new.self c.self.view_is
    c.in-Some.ensures.value (c.get_mut.follows.lender c.clear.new.self).entries c.self.invariant.ordered
    (c.get_mut.follows.holds c.clear.new.self).0 c.remove.ensures.entries
    (c.is_blank.ensures.0 c.if-is_blank.true) in
    record {
      queue = b.queue ∙ ap (λ u. u.messages) c.clear.ensures;
      spare = spare_from _ _ _ _ _ _ _ c.self.view_is c.in-Some.ensures.value b (ap (λ u. u.spare) c.clear.ensures);
      others = b.others;
    }

pub returns-else-is_blank : goal.returns-else-is_blank
returns-else-is_blank c =
    let b = placed _ _ _ _ _ c.in-Some.queue.now c.clear.new.self c.self.view_is c.in-Some.ensures.value
    (c.get_mut.follows.holds c.clear.new.self).0 in
    record {
      queue = b.queue ∙ ap (λ u. u.messages) c.clear.ensures;
      spare = spare_from _ _ _ _ _ _ _ c.self.view_is c.in-Some.ensures.value b (ap (λ u. u.spare) c.clear.ensures);
      others = b.others;
    }

pub invariant_of-self-then-is_blank : goal.invariant_of-self-then-is_blank
invariant_of-self-then-is_blank c =
    let counts = cleared_counts _ _ _ _ c.clear.ensures c.is_empty.ensures c.from.ensures in
    removed_tidy _ _ _ _ _ _ _ _ _ c.self.invariant c.in-Some.ensures.value counts
    (c.get_mut.follows.holds c.clear.new.self).0 c.remove.ensures.entries c.remove.ensures.ordered
    (c.is_blank.ensures.0 c.if-is_blank.true)

pub invariant_of-self-else-is_blank : goal.invariant_of-self-else-is_blank
invariant_of-self-else-is_blank c =
    let counts = cleared_counts _ _ _ _ c.clear.ensures c.is_empty.ensures c.from.ensures in
    kept_tidy _ _ _ _ [] _ _ _ _ c.self.invariant c.in-Some.ensures.value counts
    _ (c.get_mut.follows.holds c.clear.new.self).0 c.is_blank.ensures c.if-is_blank.false
