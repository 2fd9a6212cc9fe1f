use Rattle.std.proofs.Common.{rules, ◌≡◌, ◌∷◌, ◌++◌, [], length, sym, ap, subst, ◌∙◌, append_assoc, arith}
use Rattle.std.proofs.lemmas.List.{length_push}
use Rattle.std.proofs.lemmas.Result.{on_ok_weaker}
use Rattle.team_run.specs.EngineerThreads.{AreToPlay}
use Rattle.team_run.proofs.Crews.{to_play_push}
use Rattle.team_run.proofs.crew.Crew.start_all.Goals as goal

pub loop-engineer-init : goal.loop-engineer-init
loop-engineer-init g c =
    let all : c.args.engineers.items ≡ c.into_iter-engineer-iterator.result.rest.items = search rules in
    let none : c.args.threads.items ≡ [] = c.requires.none in (
      tt,
      tt,
      omega (arith, ap length none, c.requires.room, ap length all),
      ([], all, subst (λ ts. AreToPlay [] ts) (sym none) tt),
    )

pub loop-engineer-preserved-in-Ok : goal.loop-engineer-preserved-in-Ok
loop-engineer-preserved-in-Ok g c =
    let engineer = c.in-Some.engineer in
    let thread = c.in-Ok.thread in
    let rest = c.next.new.self.rest.items in
    let threads = c.loop-engineer.threads.items in
    let so = c.loop-engineer.invariant.3 in
    let step : c.loop-engineer.engineer-iterator.rest.items ≡ engineer ∷ rest = c.in-Some.ensures.steps.0 in
    let pushed : c.push_reserved.new.self.items ≡ threads ++ thread ∷ [] = search rules in (
      tt,
      tt,
      omega (
        arith,
        c.loop-engineer.invariant.2,
        c.push_reserved.ensures.capacity,
        ap length pushed,
        length_push threads thread,
        ap length step,
      ),
      (
        so.0 ++ engineer ∷ [],
        so.1 ∙ ap (λ l. so.0 ++ l) step ∙ sym (append_assoc so.0 (engineer ∷ []) rest),
        on_ok_weaker c.loop-engineer.outcome (λ all. subst (λ ts. AreToPlay (so.0 ++ engineer ∷ []) ts) (sym pushed)
            (to_play_push so.0 threads engineer thread all c.in-Ok.ensures)) so.2,
      ),
    )

pub loop-engineer-preserved : goal.loop-engineer-preserved
loop-engineer-preserved g c =
    let engineer = c.in-Some.engineer in
    let rest = c.next.new.self.rest.items in
    let so = c.loop-engineer.invariant.3 in
    let step : c.loop-engineer.engineer-iterator.rest.items ≡ engineer ∷ rest = c.in-Some.ensures.steps.0 in (
      tt,
      tt,
      omega (arith, c.loop-engineer.invariant.2, ap length step),
      (so.0 ++ engineer ∷ [], so.1 ∙ ap (λ l. so.0 ++ l) step ∙ sym (append_assoc so.0 (engineer ∷ []) rest), tt),
    )
