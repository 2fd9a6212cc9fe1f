use Rattle.std.proofs.Common.{rules, ◌≡◌, ◌+◌, ◌≤◌, ◌∷◌, ◌++◌, [], length, refl, sym, ap, subst, ◌∙◌, append_assoc, append-nil, arith}
use Rattle.std.proofs.lemmas.List.{length_push, nil_from_length}
use Rattle.desk.specs.WorkerThreads.{AllToWork, IsToWork}
use Rattle.desk.proofs.WorkerThreads.{to_work_push}
use Rattle.desk.proofs.workers.Crew.start_all.Goals as goal

pub loop-seat-init : goal.loop-seat-init
loop-seat-init g c =
    let all : c.args.seats.items ≡ c.into_iter-seat-iterator.result.rest.items = search rules in
    let none : c.args.workers.items ≡ [] = c.requires.none in
    let shards = c.args.self.now.desk.now.shards in
    let turns = c.args.self.now.turns in (
      tt,
      tt,
      omega (arith, ap length none, c.requires.room, ap length all),
      omega (arith, ap length none, ap length all),
      ([], all, ap length none, subst (λ ws. AllToWork 0 shards turns [] ws) (sym none) tt),
    )

pub push_reserved-requires : goal.push_reserved-requires
push_reserved-requires g c = omega (arith, c.loop-seat.invariant.2, ap length c.in-Some.ensures.steps.0)

pub loop-seat-preserved : goal.loop-seat-preserved
loop-seat-preserved g c =
    let seat = c.in-Some.seat in
    let rest = c.next.new.self.rest.items in
    let workers = c.loop-seat.workers.items in
    let worker = c.start-worker.result in
    let shards = c.args.self.now.desk.now.shards in
    let turns = c.args.self.now.turns in
    let so = c.loop-seat.invariant.4 in
    let place : c.len.result ≡ 0 + length so.0 = omega (arith, so.2) in
    let step : c.loop-seat.seat-iterator.rest.items ≡ seat ∷ rest = c.in-Some.ensures.steps.0 in
    let pushed : c.push_reserved.new.self.items ≡ workers ++ worker ∷ [] = search rules in (
      tt,
      tt,
      omega (
        arith,
        c.loop-seat.invariant.2,
        c.push_reserved.ensures.capacity,
        ap length pushed,
        length_push workers worker,
        ap length step,
      ),
      omega (arith, c.loop-seat.invariant.3, ap length pushed, length_push workers worker, ap length step),
      (
        so.0 ++ seat ∷ [],
        so.1 ∙ ap (λ l. so.0 ++ l) step ∙ sym (append_assoc so.0 (seat ∷ []) rest),
        omega (arith, so.2, ap length pushed, length_push workers worker, length_push so.0 seat),
        subst (λ ws. AllToWork 0 shards turns (so.0 ++ seat ∷ []) ws) (sym pushed)
            (to_work_push shards turns 0 so.0 workers seat worker so.3
            (subst (λ n. IsToWork n shards turns seat worker) place c.start-worker.ensures)),
      ),
    )

pub returns-clause-each : goal.returns-clause-each
returns-clause-each g c =
    let rest = c.loop-seat.seat-iterator.rest in
    let none : rest.items ≡ [] = nil_from_length rest.items (sym rest.ok.0 ∙ c.in-None.ensures.steps.0) in
    let so = c.loop-seat.invariant.4 in
    let whole : so.0 ≡ c.args.seats.items = sym (so.1 ∙ ap (λ l. so.0 ++ l) none ∙ append-nil so.0) in
    subst (λ xs. AllToWork 0 c.args.self.now.desk.now.shards c.args.self.now.turns xs c.loop-seat.workers.items) whole
    so.3

pub returns-clause-len : goal.returns-clause-len
returns-clause-len g c =
    let rest = c.loop-seat.seat-iterator.rest in
    let none : rest.items ≡ [] = nil_from_length rest.items (sym rest.ok.0 ∙ c.in-None.ensures.steps.0) in
    omega (arith, c.loop-seat.invariant.3, ap length none)
