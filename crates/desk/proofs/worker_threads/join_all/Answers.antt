use Rattle.std.proofs.Common.{rules, ◌≡◌, ◌+◌, ◌≤◌, ◌∷◌, ◌++◌, [], ℕ, List, length, sym, ap, subst, ◌∙◌, arith}
use Rattle.std.proofs.lemmas.List.{length_push, nil_from_length}
use Rattle.room.specs.Books.{SeatBook}
use Rattle.desk.proofs.WorkerThreads.{Coming, coming_all, coming_next, coming_none}
use Rattle.desk.proofs.worker_threads.join_all.Goals as goal

pub loop-worker-preserved : goal.loop-worker-preserved
loop-worker-preserved g c =
    let worker = c.in-Some.worker in
    let rest = c.next.new.self.rest.items in
    let back = c.loop-worker.back.items in
    let seat = c.join.result in
    let step : c.loop-worker.worker-iterator.rest.items ≡ worker ∷ rest = c.in-Some.ensures.steps.0 in
    let pushed : c.push_reserved.new.self.items ≡ back ++ seat ∷ [] = search rules in (
      tt,
      tt,
      omega (
        arith,
        c.loop-worker.invariant.2,
        c.push_reserved.ensures.capacity,
        ap length pushed,
        length_push back seat,
        ap length step,
      ),
      λ shards turns seats all.
          subst (λ ss. Coming shards turns seats rest ss) (sym pushed)
          (coming_next shards turns seats worker rest back seat
          (subst (λ ws. Coming shards turns seats ws back) step (c.loop-worker.invariant.3 shards turns seats all))
          (λ place x to_work. c.join.ensures place shards turns x to_work)),
    )

pub returns : goal.returns
returns g c = λ shards turns seats all.
    let rest = c.loop-worker.worker-iterator.rest in
    let none : rest.items ≡ [] = nil_from_length rest.items (sym rest.ok.0 ∙ c.in-None.ensures.steps.0) in
    coming_none shards turns seats c.loop-worker.back.items
    (subst (λ ws. Coming shards turns seats ws c.loop-worker.back.items) none
    (c.loop-worker.invariant.3 shards turns seats all))
