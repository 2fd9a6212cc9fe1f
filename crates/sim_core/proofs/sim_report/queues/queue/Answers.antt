use Rattle.std.proofs.Common.{◌≡◌, ◌∙◌, true, false, [], if◌then◌else◌, sym, ap}
use Rattle.std.proofs.lemmas.Result.{IfOk-weaker}
use Rattle.session_queue.specs.Waiting.{queue_at}
use Rattle.net_conf.specs.Costs.{is_up}
use Rattle.cell_engine.proofs.Reports.{queue_by_direction}
use Rattle.sim_core.proofs.sim_report.queues.queue.Goals as goal

pub returns-then-is_up : goal.returns-then-is_up
returns-then-is_up g c =
    let e = c.args.state.now in
    let d = c.args.direction in
    let up : is_up e.conf d.from d.to ≡ true = sym (c.is_up.ensures ∙ ap (λ k. is_up k d.from d.to) c.conf.ensures)
    ∙ c.if-is_up.true in
    IfOk-weaker c.messages_in.result _ _ (λ messages is.
    is
    ∙ ap (λ q. queue_at q d.from d.to) c.queues.ensures
    ∙ sym (queue_by_direction e c.facts.ensures.sound d ∙ ap (λ b. if b then queue_at e.queues d.from d.to else []) up))
    c.messages_in.ensures

pub returns-else-is_up : goal.returns-else-is_up
returns-else-is_up g c =
    let e = c.args.state.now in
    let d = c.args.direction in
    let down : is_up e.conf d.from d.to ≡ false = sym (c.is_up.ensures ∙ ap (λ k. is_up k d.from d.to) c.conf.ensures)
    ∙ c.if-is_up.false in
    c.new.ensures.items ∙ sym (queue_by_direction e c.facts.ensures.sound d
    ∙ ap (λ b. if b then queue_at e.queues d.from d.to else []) down)
