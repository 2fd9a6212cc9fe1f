use Rattle.std.proofs.Common.{rules, ◌≡◌, ◌∷◌, ◌++◌, [], sym, subst, ◌∙◌}
use Rattle.std.proofs.lemmas.List.{nil_from_length}
use Rattle.team_run.specs.EngineerThreads.{AreToPlay}
use Rattle.team_run.proofs.Crews.{Coming, coming_all, coming_next, coming_none}
use Rattle.team_run.proofs.crew.join_all.Goals as goal

pub loop-thread-init : goal.loop-thread-init
loop-thread-init g c =
    let rest = c.into_iter-thread-iterator.result.rest.items in
    let before = c.args.seats.items in
    let all : c.args.threads.items ≡ rest = search rules in
    let none : c.new-all.result.items ≡ [] = search rules in (
      tt,
      tt,
      λ engineers to_play. subst (λ told. Coming engineers rest before before told) (sym none)
          (coming_all engineers rest before (subst (λ ts. AreToPlay engineers ts) all to_play)),
    )

pub loop-thread-preserved : goal.loop-thread-preserved
loop-thread-preserved g c =
    let thread = c.in-Some.thread in
    let rest = c.next.new.self.rest.items in
    let before = c.args.seats.items in
    let back = c.loop-thread.seats.items in
    let told = c.loop-thread.all.items in
    let one = c.in_ok-seat.field-0 in
    let step : c.loop-thread.thread-iterator.rest.items ≡ thread ∷ rest = c.in-Some.ensures.steps.0 in
    let seats : c.push.new.self.items ≡ back ++ one.seat ∷ [] = search rules in
    let lists : c.push-in-loop-thread.new.self.items ≡ told ++ one.told ∷ [] = search rules in (
      tt,
      tt,
      λ engineers all.
          subst (λ ts. Coming engineers rest before c.push.new.self.items ts) (sym lists)
          (subst (λ ss. Coming engineers rest before ss (told ++ one.told ∷ [])) (sym seats)
          (coming_next engineers thread rest before back told one
          (subst (λ ts. Coming engineers ts before back told) step (c.loop-thread.invariant.2 engineers all))
          c.in_ok-seat.ensures)),
    )

pub returns : goal.returns
returns g c = λ shards turns workers engineers work all.
    let rest = c.loop-thread.thread-iterator.rest in
    let before = c.args.seats.items in
    let back = c.loop-thread.seats.items in
    let told = c.loop-thread.all.items in
    let none : rest.items ≡ [] = nil_from_length rest.items (sym rest.ok.0 ∙ c.in-None.ensures.steps.0) in
    coming_none _ _ engineers before back told
    (subst (λ ts. Coming engineers ts before back told) none (c.loop-thread.invariant.2 engineers all))
    shards turns workers work
