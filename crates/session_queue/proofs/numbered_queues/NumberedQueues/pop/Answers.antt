use Rattle.std.proofs.Common.{◌≡◌, ℕ, ◌+◌, ◌<◌, ◌==◌, ◌↔◌, IsTrue, Bool, [], length, drop, Some, None, refl, sym, ap, ◌∙◌, arith}
use Rattle.std.specs.Int.{from_bool}
use Rattle.std.proofs.lemmas.Bool.{false≢true}
use Rattle.net_prefix.specs.declared.addr.Addr.{Addr}
use Rattle.session_queue.specs.declared.numbered.Numbered.{Numbered}
use Rattle.session_queue.specs.Lines.{Waiting, Lines, messages_at, spare_in, waiting_at}
use Rattle.session_queue.specs.Tidy.{one_if_any}
use Rattle.session_queue.proofs.Places.{Becomes, placed, put, queue_held, queue_from, spare_from}
use Rattle.session_queue.proofs.Tidiness.{less_fits, less_counted, kept_tidy, order_stays, one_if_last}
use Rattle.session_queue.proofs.Resting.{still_becomes, rested, count_same}
use Rattle.session_queue.proofs.numbered_queues.NumberedQueues.pop.Goals as goal

-- what stands at the direction is w, which is v without its head
module _ (from to : Addr) (p q r : Lines Numbered) (v w : Waiting Numbered) (whole : p ≡ q)
    (found : Some v ≡ waiting_at p from to) (b : Becomes from to q r w)
    (rest : w ≡ record v { messages = drop 1 v.messages }) where
  queue_popped : messages_at r from to ≡ drop 1 (messages_at q from to)
  queue_popped = queue_from from to p q r v w whole found b (drop 1) (ap (λ u. u.messages) rest)

  spare_popped : spare_in r from to ≡ spare_in q from to
  spare_popped = spare_from from to p q r v w whole found b (ap (λ u. u.spare) rest)

  had_popped : (popped : Bool) → IsTrue popped ↔ (0 < length v.messages) →
      IsTrue popped ↔ (0 < length (messages_at q from to))
  had_popped popped had = rw (queue_held from to p q whole (Some v) found) had

popped_counts : (v w : Waiting Numbered) (len less : ℕ) → w ≡ record v { messages = drop 1 v.messages } →
    len ≡ length v.messages → less ≡ from_bool (len == 1) → less + one_if_any w.messages ≡ one_if_any v.messages
popped_counts v w len less rest long is = ap (λ u. less + one_if_any u.messages) rest
    ∙ one_if_last v.messages len less long is

pub returns-in_default-clause-had : goal.returns-in_default-clause-had
returns-in_default-clause-had c =
    let none : messages_at c.args.self.now c.args.from c.args.to ≡ [] =
    queue_held _ _ _ _ c.self.view_is None c.in_default.ensures.value in
    rw none (λ h. absurd (false≢true h), λ h. absurd (omega (arith, h)))

pub returns-in_default-clause-queue : goal.returns-in_default-clause-queue
returns-in_default-clause-queue c =
    let none : messages_at c.args.self.now c.args.from c.args.to ≡ [] =
    queue_held _ _ _ _ c.self.view_is None c.in_default.ensures.value in
    ap (λ m. messages_at m.entries c.args.from c.args.to) c.get_mut.follows.holds-at-none
    ∙ ap (λ q. messages_at q c.args.from c.args.to) c.self.view_is ∙ none ∙ sym (ap (drop 1) none)

pub overflow_sub-self : goal.overflow_sub-self
overflow_sub-self c =
    let v = c.in-Some.queue.now in
    less_fits _ _ _ [] [] v (record v { messages = drop 1 v.messages }) _ _ c.self.invariant c.in-Some.ensures.value
    (one_if_last v.messages _ _ c.len.ensures c.from.ensures)

pub returns-then-is_blank : goal.returns-then-is_blank
returns-then-is_blank c =
    let s = (c.get_mut.follows.lender c.pop-popped.new.self).entries in
    let h = placed _ _ _ _ _ c.in-Some.queue.now c.pop-popped.new.self c.self.view_is c.in-Some.ensures.value
    (c.get_mut.follows.holds c.pop-popped.new.self).0 in
    let ordered = order_stays c.args.from c.args.to c.self.inside.queues.entries s c.pop-popped.new.self
    (c.get_mut.follows.holds c.pop-popped.new.self).0 c.self.invariant.ordered in
    let b = still_becomes s c.remove_blank.new.queues.entries ordered _ _ _ c.pop-popped.new.self c.rest-leaving.result
    c.remove_blank.ensures.blank h in
    record {
      had = had_popped _ _ _ _ _ _ _ c.self.view_is c.in-Some.ensures.value b c.pop-popped.ensures.rest
          _ c.pop-popped.ensures.had;
      queue = queue_popped _ _ _ _ _ _ _ c.self.view_is c.in-Some.ensures.value b c.pop-popped.ensures.rest;
      spare = spare_popped _ _ _ _ _ _ _ c.self.view_is c.in-Some.ensures.value b c.pop-popped.ensures.rest;
      others = b.others;
    }

pub returns-else-is_blank : goal.returns-else-is_blank
returns-else-is_blank c =
    let b = placed _ _ _ _ _ c.in-Some.queue.now c.pop-popped.new.self c.self.view_is c.in-Some.ensures.value
    (c.get_mut.follows.holds c.pop-popped.new.self).0 in
    record {
      had = had_popped _ _ _ _ _ _ _ c.self.view_is c.in-Some.ensures.value b c.pop-popped.ensures.rest
          _ c.pop-popped.ensures.had;
      queue = queue_popped _ _ _ _ _ _ _ c.self.view_is c.in-Some.ensures.value b c.pop-popped.ensures.rest;
      spare = spare_popped _ _ _ _ _ _ _ c.self.view_is c.in-Some.ensures.value b c.pop-popped.ensures.rest;
      others = b.others;
    }

pub invariant_of-self-then-is_blank : goal.invariant_of-self-then-is_blank
invariant_of-self-then-is_blank c =
    let counts = popped_counts _ _ _ _ c.pop-popped.ensures.rest c.len.ensures c.from.ensures in
    let p = c.self.inside.queues.entries in
    let w = c.pop-popped.new.self in
    let s = (c.get_mut.follows.lender w).entries in
    let r = c.remove_blank.new.queues.entries in
    let ordered = order_stays c.args.from c.args.to p s w (c.get_mut.follows.holds w).0 c.self.invariant.ordered in
    let count = less_counted _ _ p s [] _ w _ _ c.self.invariant c.in-Some.ensures.value counts
    (c.get_mut.follows.holds w).0 in
    let h = put _ _ p p s refl _ w c.in-Some.ensures.value (c.get_mut.follows.holds w).0 in
    record {
      ordered = c.remove_blank.ensures.ordered;
      kept = rested s r ordered _ _ p w c.rest-leaving.result c.self.inside.resting c.rest-leaving.new.resting
          c.self.invariant.kept h c.remove_blank.ensures.blank c.rest-leaving.ensures.served
          c.rest-leaving.ensures.before;
      counted = count ∙ sym (count_same s r ordered c.rest-leaving.result c.remove_blank.ensures.blank);
    }

pub invariant_of-self-else-is_blank : goal.invariant_of-self-else-is_blank
invariant_of-self-else-is_blank c =
    let counts = popped_counts _ _ _ _ c.pop-popped.ensures.rest c.len.ensures c.from.ensures in
    kept_tidy _ _ _ _ [] _ _ _ _ c.self.invariant c.in-Some.ensures.value counts
    _ (c.get_mut.follows.holds c.pop-popped.new.self).0 c.is_blank.ensures c.if-is_blank.false
