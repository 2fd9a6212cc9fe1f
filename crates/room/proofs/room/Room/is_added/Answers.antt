use Rattle.std.proofs.Common.{rules, ◌≡◌, List, Some, All, sym, ap, subst, ◌∙◌}
use Rattle.std.specs.Prelude.{◌≢◌, is_ok, slice_get}
use Rattle.std.proofs.lemmas.Bool.{OnFalse_at}
use Rattle.std.proofs.lemmas.Option.{same_Some}
use Rattle.session_queue.specs.Telling.{prefix_of, message_of}
use Rattle.session_queue.specs.Waiting.{queue_at}
use Rattle.room.specs.Jobs.{Job, IsSeenIn, cell_of}
use Rattle.room.proofs.Apart.{apart_pushed}
use Rattle.room.proofs.Pushed.{all_pushed, one_more}
use Rattle.room.proofs.room.Room.is_added.Goals as goal

pub returns-in-Ok-clause-seen : goal.returns-in-Ok-clause-seen
returns-in-Ok-clause-seen g c =
    all_pushed (IsSeenIn c.args.self.now) (is_ok c.push.result) c.args.jobs.now.items c.push.new.self.items c.in-Ok.job
    c.push.ensures.items c.requires.seen c.in-Ok.ensures.seen

pub returns-in-Ok-clause-added : goal.returns-in-Ok-clause-added
returns-in-Ok-clause-added g c =
    one_more (λ (x : Job). x.direction ≡ c.args.direction) (is_ok c.push.result) c.args.jobs.now.items
    c.push.new.self.items c.in-Ok.job c.push.ensures.items c.in-Ok.ensures.direction

pub returns-in-Ok-clause-apart : goal.returns-in-Ok-clause-apart
returns-in-Ok-clause-apart g c =
    let d = c.args.direction in
    let jobs : List Job = c.args.jobs.now.items in
    let job : Job = c.in-Ok.job in
    let shown : slice_get (queue_at c.args.self.now.engine.queues d.from d.to) 0 ≡ Some (message_of c.in-Some.view) =
    search rules in
    let held : slice_get (queue_at c.args.self.now.engine.queues d.from d.to) 0 ≡ Some job.head =
    (λ i. slice_get (queue_at c.args.self.now.engine.queues (sym c.in-Ok.ensures.direction i).from
    (sym c.in-Ok.ensures.direction i).to) 0) ∙ c.in-Ok.ensures.seen.head in
    let head : message_of c.in-Some.view ≡ job.head =
    same_Some (message_of c.in-Some.view) job.head (sym shown ∙ held) in
    let prefix : c.prefix.result ≡ prefix_of job.head = c.prefix.ensures ∙ ap prefix_of head in
    let none : All (λ (x : Job). cell_of x ≢ (d.to, c.prefix.result)) jobs =
    subst (All (λ (x : Job). cell_of x ≢ (d.to, c.prefix.result))) c.deref.ensures.value
    (OnFalse_at c.if-has_cell.false c.has_cell.ensures) in
    apart_pushed (is_ok c.push.result) jobs c.push.new.self.items job c.push.ensures.items c.requires.apart
    (subst (λ k. All (λ (x : Job). cell_of x ≢ k) jobs) (λ i. ((sym c.in-Ok.ensures.direction i).to, prefix i)) none)
