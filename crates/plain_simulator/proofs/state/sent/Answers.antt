use Rattle.std.proofs.Common.{◌≡◌, ◌∙◌, sym, ap}
use Rattle.std.proofs.lemmas.Result.{IfOk-weaker}
use Rattle.net_conf.specs.Costs.{is_up}
use Rattle.reference_machine.specs.Network.{Network}
use Rattle.reference_machine.specs.Advertising.{sends, sent}
use Rattle.plain_simulator.specs.Choices.{messages_of}
use Rattle.plain_simulator.proofs.MessagesOfChoices.{sent_by_choices}
use Rattle.plain_simulator.proofs.state.sent.Goals as goal

pub returns-then-sends : goal.returns-then-sends
returns-then-sends c =
    let r = c.args.router in
    let t = c.args.peer in
    IfOk-weaker c.messages_of.result
    (λ m. m.items ≡ messages_of c.is_up-was_up.result c.is_up-is_up.result c.args.choices.now t)
    (λ m. m.items ≡ sent c.args.earlier.now c.args.later.now r t)
    (λ m is. is ∙ sent_by_choices c.args.earlier.now c.args.later.now r t c.is_up-was_up.result
    c.is_up-is_up.result c.args.choices.now
    (sym (ap (λ (x : Network). sends x.conf r t) c.later.view_is) ∙ sym c.sends.ensures ∙ c.if-sends.true)
    (c.is_up-was_up.ensures ∙ ap (λ (x : Network). is_up x.conf r t) c.earlier.view_is)
    (c.is_up-is_up.ensures ∙ ap (λ (x : Network). is_up x.conf r t) c.later.view_is)
    c.requires)
    c.messages_of.ensures
