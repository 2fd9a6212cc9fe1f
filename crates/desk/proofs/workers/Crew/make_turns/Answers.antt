use Rattle.std.proofs.Common.{◌≡◌, ◌+◌, ◌%◌, ◌≤◌, ℕ, length, sym, subst, arith}
use Rattle.room.specs.Books.{SeatBook}
use Rattle.desk.specs.Desks.{IsWorkedAt}
use Rattle.desk.specs.WorkerThreads.{IsTold}
use Rattle.desk.proofs.Working.{turned, worked_longer}
use Rattle.desk.proofs.workers.Crew.make_turns.Goals as goal
use Rattle.desk.proofs.workers.Crew.make_turns.Goals.{in-Ok, in-Err-ThisTurn}

pub loop-preserved : goal.loop-preserved
loop-preserved g c =
    let place = c.args.worker in
    let told : ℕ → Type 0 = λ n. IsTold (g.G.Gate.was_taken c.args.self.now.gate.now place) n in
    let shards = c.args.self.now.desk.now.shards in
    let shard = c.shard_of-shard.result in
    let turns = c.match-next_turn.turns in
    let before = c.args.seat.now in
    let old = c.loop.seat in
    let at_once = c.turns_at_once-at_once.ensures.left in
    let test = c.if-turns-self.false in
    let fewer = c.loop.invariant.2 in
    elim c.match-next_turn.branch [
      | in-Ok w ↦
          let count = length w.in-Ok.jobs in
          let is = w.turns-is in
          let jobs_is = w.jobs_before-is in
          let len = w.len-count.ensures in
          let most = w.in-Ok.ensures.most in
          let more : c.loop.turns + count ≤ turns = omega arith in
          let left : turns ≤ c.args.self.now.turns = omega arith in
          let few : c.match-next_turn.jobs_before ≤ turns = omega arith in
          let all : c.match-next_turn.jobs_before ≡ c.loop.jobs_before + count = omega arith in
          let worked = w.do_jobs-put_in.ensures.worked shard shards w.in-Ok.ensures.shard in
          let now = turned shard shards place c.loop.turns count turns before old w.do_jobs-put_in.new.seat
          c.shard_of-shard.ensures.shard more c.loop.invariant.0 worked in (
            subst (λ (s : SeatBook). IsWorkedAt place shards turns before s) (sym w.seat-is) now,
            left,
            few,
            subst told (sym all) w.do_jobs-put_in.ensures.told,
          )
      | in-Err-ThisTurn w ↦
          let is = w.turns-is in
          let jobs_is = w.jobs_before-is in
          let more : c.loop.turns ≤ turns = omega arith in
          let left : turns ≤ c.args.self.now.turns = omega arith in
          let few : c.match-next_turn.jobs_before ≤ turns = omega arith in
          let now : IsWorkedAt place shards turns before old =
          worked_longer (place % shards) shards c.loop.turns turns before old more c.loop.invariant.0 in (
            subst (λ (s : SeatBook). IsWorkedAt place shards turns before s) (sym w.seat-is) now,
            left,
            few,
            subst told (sym jobs_is) c.loop.invariant.3,
          )
    ]
