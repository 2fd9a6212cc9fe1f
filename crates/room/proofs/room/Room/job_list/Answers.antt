use Rattle.std.proofs.Common.{◌≡◌, List, [], All, sym, subst}
use Rattle.std.specs.Prelude.{◌≢◌, is_ok}
use Rattle.std.proofs.lemmas.List.Elements.{All-nil}
use Rattle.room.specs.Jobs.{Job, AreApart, cell_of}
use Rattle.room.proofs.Apart.{apart_pushed}
use Rattle.room.proofs.room.Room.job_list.Goals as goal

pub add_jobs-requires-clause-apart : goal.add_jobs-requires-clause-apart
add_jobs-requires-clause-apart g c =
    let first : Job = c.in-Some.first in
    let jobs : List Job = c.in-Ok.jobs.items in
    let none : jobs ≡ [] = c.in-Ok.ensures.items in
    apart_pushed (is_ok c.push.result) jobs c.push.new.self.items first c.push.ensures.items
    (subst AreApart (sym none) tt)
    (subst (All (λ (x : Job). cell_of x ≢ cell_of first)) (sym none) (All-nil (λ (x : Job). cell_of x ≢ cell_of first)))
