use Rattle.std.proofs.Common.{Option, Some, None}
use Rattle.std.specs.Option.{IfNone}
use Rattle.std.proofs.lemmas.Option.{IfSome_then}
use Rattle.session_queue.proofs.Shown.{empty_seen, some_seen}
use Rattle.session_queue.proofs.queues.Queues.next_in.Goals as goal

none_then : {A : Type 0} (r : Option A) {P Q : Type 0} → IfNone r P → (P → Q) → IfNone r Q
none_then None p f = f p
none_then (Some x) p f = tt

pub returns-clause-full : goal.returns-clause-full
returns-clause-full c =
    IfSome_then c.next_in.result c.next_in.ensures.full
    (λ found some. some_seen c.self.inside.pool c.self.inside.queues c.self.inside.queues c.args.self.now c.self.view_is
    found.from found.to some)

pub returns-clause-none : goal.returns-clause-none
returns-clause-none c =
    none_then c.next_in.result c.next_in.ensures.none
    (λ none from to is. empty_seen c.self.inside.pool c.self.inside.queues c.self.inside.queues c.args.self.now
    c.self.view_is from to (none from to is))
