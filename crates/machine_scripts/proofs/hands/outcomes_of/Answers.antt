use Rattle.std.proofs.Common.{rules, ◌∷◌, List, All, sym, subst}
use Rattle.std.specs.Prelude.{is_ok}
use Rattle.std.proofs.lemmas.List.Elements.{All-head, All-tail}
use Rattle.room.specs.Jobs.{Job, IsSeenIn, AreTakenTogether}
use Rattle.room.proofs.Pushed.{all_pushed}
use Rattle.machine_scripts.proofs.hands.outcomes_of.Goals as goal

pub loop-job-init : goal.loop-job-init
loop-job-init c =
    let together : AreTakenTogether c.into_iter-job-iterator.result.rest.items =
    subst AreTakenTogether (sym c.into_iter-job-iterator.ensures.into_iter_gives.0)
    c.into_vec-job-items.ensures.together in
    (tt, tt, (together.0, together.1, search rules))

pub loop-job-preserved : goal.loop-job-preserved
loop-job-preserved c =
    let x = c.in-Some.job in
    let rest : List Job = c.next.new.self.rest.items in
    let old : List Job = c.loop-job.outcomes.items in
    let room = c.loop-job.invariant.2.0 in
    let seen : All (IsSeenIn room) (x ∷ rest) =
    subst (All (IsSeenIn room)) c.in-Some.ensures.steps.0 c.loop-job.invariant.2.1 in
    let done : IsSeenIn room c.in-Ok.done = subst (IsSeenIn room) (sym c.in-Ok.ensures.done)
    (All-head (IsSeenIn room) x rest seen) in (
      tt,
      tt,
      (
        room,
        All-tail (IsSeenIn room) x rest seen,
        all_pushed (IsSeenIn room) (is_ok c.push.result) old c.push.new.self.items c.in-Ok.done c.push.ensures.items
            c.loop-job.invariant.2.2 done,
      ),
    )
