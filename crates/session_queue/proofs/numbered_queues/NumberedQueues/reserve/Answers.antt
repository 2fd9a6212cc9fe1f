use Rattle.std.proofs.Common.{◌≡◌, ℕ, ◌+◌, ◌<◌, ◌≤◌, max, Result, Ok, Err, OnOk, OnErr, Some, None, sym, ap, ◌∙◌, arith}
use Rattle.std.specs.Map.{set_value}
use Rattle.std.specs.BTreeMap.{insert_entry}
use Rattle.std.proofs.lemmas.Map.Steps.{set_value_same}
use Rattle.net_prefix.specs.declared.addr.Addr.{Addr}
use Rattle.session_queue.specs.declared.numbered.Numbered.{Numbered}
use Rattle.session_queue.specs.Lines.{Waiting, Lines, waiting_at, direction_cmp}
use Rattle.session_queue.specs.Tidy.{one_if_any, IsKept}
use Rattle.session_queue.proofs.Places.{at, key, placed, added, queue_here, spare_here, others_keep, queue_held, spare_held, queue_from}
use Rattle.session_queue.proofs.Tidiness.{put_tidy, added_tidy, kept_found}
use Rattle.session_queue.proofs.numbered_queues.NumberedQueues.reserve.Goals as goal

-- v has been asked for room for n, and is now w
module _ {T E : Type 0} (v w : Waiting Numbered) (n : ℕ) where
  messages_stay : (r : Result T E) → OnOk r (w ≡ record v { spare = max n v.spare }) → OnErr r (w ≡ v) →
      w.messages ≡ v.messages
  messages_stay (Ok u) ok err = ap (λ u. u.messages) ok
  messages_stay (Err e) ok err = ap (λ u. u.messages) err

  still_kept : (r : Result T E) → IsKept v → OnOk r (w ≡ record v { spare = max n v.spare }) →
      OnErr r (w ≡ v) → IsKept w
  still_kept (Ok u) kept ok err = rw ok (omega (arith, kept))
  still_kept (Err e) kept ok err = rw err kept

  stays : (r : Result T E) → OnOk r (w ≡ record v { spare = max n v.spare }) → OnErr r (w ≡ v) → n ≤ v.spare → w ≡ v
  stays (Ok u) ok err enough = ok ∙ ap (λ s. record v { spare = s }) (omega (arith, enough))
  stays (Err e) ok err enough = err

  more_spare : (r : Result T E) (a b : ℕ) → a ≡ w.spare → b ≡ v.spare →
      OnOk r (w ≡ record v { spare = max n v.spare }) → OnOk r (a ≡ max n b)
  more_spare (Ok u) a b after before ok = after ∙ ap (λ u. u.spare) ok ∙ ap (λ s. max n s) (sym before)
  more_spare (Err e) a b after before ok = tt

  -- n were spare
  enough_stays : (r : Result T E) (from to : Addr) (p q s : Lines Numbered) (b : ℕ) → p ≡ q →
      Some v ≡ waiting_at p from to → s ≡ set_value (at from to) p w → b ≡ v.spare →
      OnOk r (w ≡ record v { spare = max n v.spare }) → OnErr r (w ≡ v) → n ≤ b → s ≡ q
  enough_stays r from to p q s b whole found is before ok err enough =
      let same : w ≡ v = stays r ok err (omega (arith, enough, before)) in
      is ∙ ap (set_value (at from to) p) same ∙ set_value_same (at from to) p v (sym found) ∙ whole

  too_few : (r : Result T E) (b : ℕ) → b ≡ v.spare → OnErr r (v.spare < n) → OnErr r (b < n)
  too_few (Ok u) b before short = tt
  too_few (Err e) b before short = omega (arith, before, short)

  unchanged : (r : Result T E) (from to : Addr) (p q s : Lines Numbered) → p ≡ q → Some v ≡ waiting_at p from to →
      s ≡ set_value (at from to) p w → OnErr r (w ≡ v) → OnErr r (s ≡ q)
  unchanged (Ok u) from to p q s whole found is err = tt
  unchanged (Err e) from to p q s whole found is err = is ∙ ap (set_value (at from to) p) err
      ∙ set_value_same (at from to) p v (sym found) ∙ whole

none_spare : {T E : Type 0} (r : Result T E) (s n : ℕ) → s ≡ 0 → (n ≡ 0 → ⊥) → OnErr r (s < n)
none_spare (Ok u) s n none some = tt
none_spare (Err e) s n none some = omega (arith, none, some)

most : (n b : ℕ) → b ≡ 0 → n ≡ max n b
most n b e = omega (arith, e)

pub invariant_of-self : goal.invariant_of-self
invariant_of-self c =
    let v = c.in-Some.queue.now in
    let w = c.reserve.new.self in
    let same = messages_stay v w c.args.n _ c.reserve.ensures.ok c.reserve.ensures.err in
    put_tidy _ _ _ _ _ _ c.self.invariant v w c.in-Some.ensures.value (c.get_mut.follows.holds w).0
    (λ awake. still_kept v w c.args.n _ (kept_found _ _ _ _ v c.self.invariant c.in-Some.ensures.value awake)
    c.reserve.ensures.ok c.reserve.ensures.err) (ap (λ ms. c.self.inside.full + one_if_any ms) (sym same))

pub returns-in-Some : goal.returns-in-Some
returns-in-Some c =
    let v = c.in-Some.queue.now in
    let w = c.reserve.new.self in
    let ok = c.reserve.ensures.ok in
    let err = c.reserve.ensures.err in
    let b = placed _ _ _ _ _ v w c.self.view_is c.in-Some.ensures.value (c.get_mut.follows.holds w).0 in
    record {
      spare = more_spare v w c.args.n _ _ _ b.spare
          (spare_held _ _ _ _ c.self.view_is (Some v) c.in-Some.ensures.value) ok;
      queue = queue_from _ _ _ _ _ v w c.self.view_is c.in-Some.ensures.value b (λ ms. ms)
          (messages_stay v w c.args.n _ ok err);
      others = b.others;
      enough = enough_stays v w c.args.n _ _ _ _ _ _ _ c.self.view_is c.in-Some.ensures.value
          (c.get_mut.follows.holds w).0 (spare_held _ _ _ _ c.self.view_is (Some v) c.in-Some.ensures.value) ok err;
      short = too_few v w c.args.n _ _ (spare_held _ _ _ _ c.self.view_is (Some v) c.in-Some.ensures.value)
          c.reserve.ensures.short;
      err = unchanged v w c.args.n _ _ _ _ _ _ c.self.view_is c.in-Some.ensures.value (c.get_mut.follows.holds w).0 err;
    }

pub invariant_of-self-2 : goal.invariant_of-self-2
invariant_of-self-2 c =
    let w = c.in_ok-queue.queue in
    let before = ap (λ m. insert_entry direction_cmp m.entries (key c.args.from c.args.to) w)
    c.get_mut.follows.holds-at-none in
    let spare = ap (λ u. u.spare) c.in_ok-queue.ensures in
    let some : c.args.n ≡ 0 → ⊥ = c.if-n-eq0.false in
    let none = ap (λ u. one_if_any u.messages) c.in_ok-queue.ensures in
    added_tidy c.args.from c.args.to c.self.inside.queues.entries _ _ _ c.self.invariant w c.in_default.ensures.value
    (c.in_ok-insert.ensures.entries ∙ before) c.in_ok-insert.ensures.ordered
    (added _ _ _ _ _ (ap (λ m. m.entries) c.get_mut.follows.holds-at-none) w c.in_ok-insert.ensures.updates.0)
    (omega (arith, spare, some)) (omega (arith, none))

pub returns : goal.returns
returns c =
    let w = c.in_ok-queue.queue in
    let is = c.in_ok-queue.ensures in
    let none = c.in_default.ensures.value in
    let whole = ap (λ m. m.entries) c.get_mut.follows.holds-at-none ∙ c.self.view_is in
    let h = added _ _ _ _ _ whole w c.in_ok-insert.ensures.updates.0 in
    record {
      spare = spare_here _ _ _ _ _ h ∙ ap (λ u. u.spare) is
          ∙ most c.args.n _ (spare_held _ _ _ _ c.self.view_is None none);
      queue = queue_here _ _ _ _ _ h ∙ ap (λ u. u.messages) is ∙ sym (queue_held _ _ _ _ c.self.view_is None none);
      others = others_keep _ _ _ _ _ h;
      enough = λ enough. absurd (c.if-n-eq0.false (omega (arith, enough, spare_held _ _ _ _ c.self.view_is None none)));
      short = tt;
      err = tt;
    }

pub returns-in_err-queue-clause-short : goal.returns-in_err-queue-clause-short
returns-in_err-queue-clause-short c =
    none_spare _ _ _ (spare_held _ _ _ _ c.self.view_is None c.in_default.ensures.value) c.if-n-eq0.false

pub returns-in_err-insert-clause-short : goal.returns-in_err-insert-clause-short
returns-in_err-insert-clause-short c =
    none_spare _ _ _ (spare_held _ _ _ _ c.self.view_is None c.in_default.ensures.value) c.if-n-eq0.false
