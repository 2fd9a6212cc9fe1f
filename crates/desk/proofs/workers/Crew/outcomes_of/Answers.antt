use Rattle.std.proofs.Common.{rules, ◌≡◌, ◌+◌, ◌-◌, ◌≤◌, ℕ, ◌∷◌, ◌++◌, [], length, List, All, sym, ap, subst, ◌∙◌, length-append, arith}
use Rattle.std.proofs.lemmas.List.{nil_from_length}
use Rattle.std.proofs.lemmas.List.Elements.{All-head, All-tail}
use Rattle.room.specs.Jobs.{Job, IsSeenIn, IsOfShard, AreTakenTogether}
use Rattle.desk.specs.WorkerThreads.{IsTold}
use Rattle.desk.proofs.Working.{all_added}
use Rattle.desk.proofs.workers.Crew.outcomes_of.Goals as goal

pub loop-job-init : goal.loop-job-init
loop-job-init g c =
    let all : c.args.jobs ≡ c.into_iter-job-iterator.result.rest.items = search rules in
    let together : AreTakenTogether c.into_iter-job-iterator.result.rest.items =
    subst AreTakenTogether (sym c.into_iter-job-iterator.ensures.into_iter_gives.0)
    c.into_vec-job-items.ensures.together in
    let many : length c.args.jobs ≡ length c.into_iter-job-iterator.result.rest.items = ap length all in (
      tt,
      tt,
      (together.0, together.1, search rules),
      (λ shard shards of. (subst (All (IsOfShard shard shards)) all of, search rules)),
      (omega arith),
      (omega arith),
      c.requires.before,
    )

pub do_job-requires-clause-before : goal.do_job-requires-clause-before
do_job-requires-clause-before g c = λ more.
    let n = c.loop-job.n in
    let told : g.G.Gate.was_taken c.args.self.now.gate.now c.args.worker n = c.loop-job.invariant.6 (omega arith) in
    let same : n ≡ n + 1 - 1 = omega arith in
    subst (λ (k : ℕ). g.G.Gate.was_taken c.args.self.now.gate.now c.args.worker k) same told

pub loop-job-preserved : goal.loop-job-preserved
loop-job-preserved g c =
    let x = c.in-Some.job in
    let rest : List Job = c.next.new.self.rest.items in
    let old : List Job = c.loop-job.outcomes.items in
    let new : List Job = c.do_job.new.outcomes.items in
    let more : List Job = c.do_job.ensures.kept.0 in
    let added : new ≡ old ++ more = c.do_job.ensures.kept.1 in
    let room = c.loop-job.invariant.2.0 in
    let seen : All (IsSeenIn room) (x ∷ rest) =
    subst (All (IsSeenIn room)) c.in-Some.ensures.steps.0 c.loop-job.invariant.2.1 in
    let few : length more ≤ 1 = c.do_job.ensures.kept.2 in
    let most = c.loop-job.invariant.4 in
    let sum = c.loop-job.invariant.5 in
    let longer : length new ≡ length old + length more = ap length added ∙ length-append old more in
    let left : length c.loop-job.job-iterator.rest.items ≡ length (x ∷ rest) = ap length c.in-Some.ensures.steps.0 in (
      tt,
      tt,
      (
        room,
        All-tail (IsSeenIn room) x rest seen,
        all_added (IsSeenIn room) x old more new added c.do_job.ensures.kept.3 c.loop-job.invariant.2.2
            (All-head (IsSeenIn room) x rest seen),
      ),
      (λ shard shards of.
          let both = c.loop-job.invariant.3 shard shards of in
          let mine : All (IsOfShard shard shards) (x ∷ rest) =
          subst (All (IsOfShard shard shards)) c.in-Some.ensures.steps.0 both.0 in (
            All-tail (IsOfShard shard shards) x rest mine,
            all_added (IsOfShard shard shards) x old more new added c.do_job.ensures.kept.3 both.1
                (All-head (IsOfShard shard shards) x rest mine),
          )),
      (omega arith),
      (omega arith),
      (λ some. c.do_job.ensures.taken),
    )

pub returns-clause-of_shard : goal.returns-clause-of_shard
returns-clause-of_shard g c = λ shard shards every. subst (All (IsOfShard shard shards)) (sym c.of.ensures)
    (c.loop-job.invariant.3 shard shards every).1

pub returns-clause-told : goal.returns-clause-told
returns-clause-told g c =
    let rest = c.loop-job.job-iterator.rest in
    let none : rest.items ≡ [] = nil_from_length rest.items (sym rest.ok.0 ∙ c.in-None.ensures.steps.0) in
    let empty : length rest.items ≡ 0 = ap length none in
    let all : c.loop-job.n ≡ c.args.jobs_before + length c.args.jobs = omega (arith, c.loop-job.invariant.5) in
    subst (IsTold (g.G.Gate.was_taken c.args.self.now.gate.now c.args.worker)) all c.loop-job.invariant.6
