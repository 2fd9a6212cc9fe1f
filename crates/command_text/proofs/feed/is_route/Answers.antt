use Rattle.std.proofs.Common.{◌≡◌}
use Rattle.std.proofs.lemmas.Bool.{false≢true}
use Rattle.sim_event.specs.Wording.{path_text}
use Rattle.command_text.specs.declared.feed.UpdateWords.{UpdateWords}
use Rattle.command_text.specs.Paths.{HasPath}
use Rattle.command_text.specs.Updates.{update_words, AreUpdateWords, HasRoute}
use Rattle.command_text.proofs.feed.is_route.Goals as goal

route_of : (u : UpdateWords) → AreUpdateWords u → HasPath u.path.now → HasRoute (update_words u)
route_of u h path = (
  record { prefix = u.prefix; path = path.0; origin = u.origin; med = u.med; comms = h.3.0 },
  (h.0, path.1.0, path.1.1, h.2, h.3.1),
  cc (path.2, h.3.2),
)

path_of : (u : UpdateWords) → HasRoute (update_words u) → HasPath u.path.now
path_of u has =
    let spelled : u.path.now ≡ path_text has.0.path = cc (has.2) in
    (has.0.path, (has.1.1, has.1.2), spelled)

pub returns-in-Some : goal.returns-in-Some
returns-in-Some c =
    let found = c.in-Some.ensures.found in (
      λ e. let route = route_of c.in-Some.update found.0 (c.is_path.ensures.0 e) in
          (route.0, route.1, cc (found.1, route.2)),
      λ has. c.is_path.ensures.1 (path_of c.in-Some.update (has.0, has.1, cc (found.1, has.2))),
    )

pub returns-in-None : goal.returns-in-None
returns-in-None c = (λ e. absurd (false≢true e), λ has. absurd (c.in-None.ensures.none has.0 has.1 has.2))
