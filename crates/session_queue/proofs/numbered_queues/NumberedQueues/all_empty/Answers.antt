use Rattle.std.proofs.Common.{sym, subst}
use Rattle.std.proofs.lemmas.Bool.{eqb-true, eq-eqb}
use Rattle.session_queue.specs.Lines.{AreEmpty}
use Rattle.session_queue.proofs.Tidiness.{quiet, count_of_quiet}
use Rattle.session_queue.proofs.numbered_queues.NumberedQueues.all_empty.Goals as goal

pub returns : goal.returns
returns c =
    let full = c.self.inside.full in
    let q = c.self.inside.queues.entries in (
      λ none. subst AreEmpty c.self.view_is (quiet q full c.self.invariant (eqb-true full 0 none)),
      λ silent. eq-eqb full 0 (count_of_quiet q full c.self.invariant (subst AreEmpty (sym c.self.view_is) silent)),
    )
