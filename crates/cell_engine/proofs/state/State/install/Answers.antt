use Rattle.std.proofs.Common.{◌≡◌, ◌≤◌, List, length, OnOk, ap, sym, subst, ◌∙◌}
use Rattle.net_prefix.specs.declared.addr.Addr.{Addr}
use Rattle.session_queue.specs.declared.message.Message.{Message}
use Rattle.reference_machine.specs.Network.{messages_in}
use Rattle.reference_machine.specs.Machine.{head_step}
use Rattle.cell_engine.specs.State.{network}
use Rattle.cell_engine.specs.Sending.{told}
use Rattle.cell_engine.proofs.Delivered.{outcome_tells_one}
use Rattle.cell_engine.proofs.Growth.{network_kept, at_error}
use Rattle.cell_engine.proofs.state.State.install.Goals as goal

pub make_places-requires : goal.make_places-requires
make_places-requires g c =
    subst (λ (l : List (Addr × Message)). (t : Addr) → length (told t l) ≤ 1)
    (sym (c.deref.ensures.value ∙ ap (λ o. o.sends) c.outcome.view_is))
    (λ t. subst (λ o. length (told t o.sends) ≤ 1) (sym c.requires.head.outcome)
    (outcome_tells_one c.args.self.now c.facts.ensures.configured c.args.direction c.requires.head.message t))

pub returns-then-is_err-clause-same : goal.returns-then-is_err-clause-same
returns-then-is_err-clause-same g c = network_kept c.args.self.now c.make_places.new.self c.make_places.ensures.same

pub returns-clause-next : goal.returns-clause-next
returns-clause-next g c =
    let d = c.args.direction in
    subst (λ n. OnOk c.put.result (network c.put.new.self ≡ (head_step n d (messages_in n.queues d)).next))
    (network_kept c.args.self.now c.make_places.new.self c.make_places.ensures.same) c.put.ensures.next

pub returns-clause-same : goal.returns-clause-same
returns-clause-same g c =
    at_error c.put.result (λ e. ap network e
    ∙ network_kept c.args.self.now c.make_places.new.self c.make_places.ensures.same) c.put.ensures.same
