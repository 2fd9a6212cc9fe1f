use Rattle.std.proofs.Common.{◌≡◌, Some, None, slice_get, sym, ap, ◌∙◌}
use Rattle.std.specs.Option.{option_map}
use Rattle.session_queue.specs.Lines.{messages_at}
use Rattle.session_queue.specs.Numbers.{message_by}
use Rattle.session_queue.specs.Telling.{message_of}
use Rattle.session_queue.proofs.Shown.{message_was, given_at}
use Rattle.session_queue.proofs.queues.Queues.at.Goals as goal

pub returns-in_err-message : goal.returns-in_err-message
returns-in_err-message c =
    let none : None ≡ slice_get (messages_at c.self.inside.queues c.args.from c.args.to) c.args.n =
    sym c.in_err-message.was ∙ c.at.ensures in
    ap (option_map message_of) c.from_residual.ensures
    ∙ ap (option_map (message_by c.self.inside.pool)) none
    ∙ sym (message_was c.self.inside.pool c.self.inside.queues c.self.inside.queues c.args.self.now c.self.view_is
    c.args.from c.args.to c.args.n)

pub by-requires : goal.by-requires
by-requires c =
    given_at c.self.inside.pool c.self.inside.queues c.self.invariant c.args.from c.args.to c.args.n
    c.in_ok-message.message (sym c.at.ensures ∙ c.in_ok-message.was)

pub returns : goal.returns
returns c =
    let found : Some c.in_ok-message.message
    ≡ slice_get (messages_at c.self.inside.queues c.args.from c.args.to) c.args.n = sym c.in_ok-message.was
    ∙ c.at.ensures in
    ap Some c.by.ensures
    ∙ ap (option_map (message_by c.self.inside.pool)) found
    ∙ sym (message_was c.self.inside.pool c.self.inside.queues c.self.inside.queues c.args.self.now c.self.view_is
    c.args.from c.args.to c.args.n)
