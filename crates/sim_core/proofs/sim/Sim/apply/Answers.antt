use Rattle.std.proofs.Common.{◌≡◌, ◌<◌, true, sym, ap, subst, option_map, ◌∙◌}
use Rattle.net_conf.specs.Configuration.{has_session}
use Rattle.net_conf.specs.Costs.{is_up}
use Rattle.session_queue.specs.Waiting.{spare_at, IsAdmitted}
use Rattle.reference_machine.specs.Network.{with_message, messages_in}
use Rattle.reference_machine.specs.Machine.{with_sent, after_edit, head_step}
use Rattle.cell_engine.specs.State.{network}
use Rattle.cell_engine.specs.Deliveries.{IsOfHead, HasRoom}
use Rattle.cell_engine.specs.Edits.{IsPlanned, HasPlaces}
use Rattle.sim_core.specs.Counting.{Counted}
use Rattle.sim_core.proofs.Carried.{editing, taking, pushing, nothing_done}
use Rattle.sim_core.proofs.sim.Sim.apply.Goals as goal

pub reconfigure-requires-clause-of : goal.reconfigure-requires-clause-of
reconfigure-requires-clause-of g c =
    let x = c.in-Some.edited in
    let done = editing c.args.self.now.engine c.requires.event c.args.plan c.requires.is x
    (sym (ap (λ p. p.edited) c.plan.view_is) ∙ c.in-Some.is) in
    record {
      edit = done.edit;
      is = subst (λ (s : Counted). IsPlanned s.engine done.edit x) (sym c.self.view_is) done.is;
    }

pub reconfigure-requires-clause-room : goal.reconfigure-requires-clause-room
reconfigure-requires-clause-room g c =
    let x = c.in-Some.edited in
    let done = editing c.args.self.now.engine c.requires.event c.args.plan c.requires.is x
    (sym (ap (λ p. p.edited) c.plan.view_is) ∙ c.in-Some.is) in
    subst (λ (s : Counted). HasPlaces s.engine x) (sym c.self.view_is) done.room

pub returns-in-Some-clause-next : goal.returns-in-Some-clause-next
returns-in-Some-clause-next g c = λ event is.
    let x = c.in-Some.edited in
    let e = c.args.self.now.engine in
    let done = editing e event c.args.plan is x (sym (ap (λ p. p.edited) c.plan.view_is) ∙ c.in-Some.is) in
    c.reconfigure.ensures done.edit
    (subst (λ (s : Counted). IsPlanned s.engine done.edit x) (sym c.self.view_is) done.is)
    ∙ ap (λ (s : Counted). with_sent (network s.engine) (after_edit (network s.engine) done.edit)) c.self.view_is
    ∙ sym done.next

pub take-requires-clause-up : goal.take-requires-clause-up
take-requires-clause-up g c =
    let t = c.in-Some-taken.taken.value in
    subst (λ (s : Counted). is_up s.engine.conf t.direction.from t.direction.to ≡ true) (sym c.self.view_is)
    (taking c.args.self.now.engine c.requires.event c.args.plan c.requires.is t (sym (ap (λ p. p.taken) c.plan.view_is)
    ∙ ap (option_map (λ t. t.value)) c.in-Some-taken.is)).up

pub take-requires-clause-head : goal.take-requires-clause-head
take-requires-clause-head g c =
    let t = c.in-Some-taken.taken.value in
    subst (λ (s : Counted). IsOfHead s.engine t.direction t.prefix t.outcome) (sym c.self.view_is)
    (taking c.args.self.now.engine c.requires.event c.args.plan c.requires.is t (sym (ap (λ p. p.taken) c.plan.view_is)
    ∙ ap (option_map (λ t. t.value)) c.in-Some-taken.is)).head

pub take-requires-clause-room : goal.take-requires-clause-room
take-requires-clause-room g c =
    let t = c.in-Some-taken.taken.value in
    subst (λ (s : Counted). HasRoom s.engine t.direction.to t.prefix t.outcome.sends) (sym c.self.view_is)
    (taking c.args.self.now.engine c.requires.event c.args.plan c.requires.is t (sym (ap (λ p. p.taken) c.plan.view_is)
    ∙ ap (option_map (λ t. t.value)) c.in-Some-taken.is)).room

pub returns-in-Some-taken-clause-next : goal.returns-in-Some-taken-clause-next
returns-in-Some-taken-clause-next g c = λ event is.
    let t = c.in-Some-taken.taken.value in
    c.take.ensures
    ∙ ap (λ (s : Counted). (head_step (network s.engine) t.direction
    (messages_in (network s.engine).queues t.direction)).next) c.self.view_is
    ∙ sym (taking c.args.self.now.engine event c.args.plan is t (sym (ap (λ p. p.taken) c.plan.view_is)
    ∙ ap (option_map (λ t. t.value)) c.in-Some-taken.is)).next

pub push-requires-clause-session : goal.push-requires-clause-session
push-requires-clause-session g c =
    let d = c.in-Some-pushed.direction in
    subst (λ (s : Counted). has_session s.engine.conf d.from d.to ≡ true) (sym c.self.view_is)
    (pushing c.args.self.now.engine c.requires.event c.args.plan c.requires.is (d, c.in-Some-pushed.message)
    (sym (ap (λ p. p.pushed) c.plan.view_is) ∙ c.in-Some-pushed.is)).session

pub push-requires-clause-room : goal.push-requires-clause-room
push-requires-clause-room g c =
    let d = c.in-Some-pushed.direction in
    subst (λ (s : Counted). 0 < spare_at s.engine.queues d.from d.to) (sym c.self.view_is)
    (pushing c.args.self.now.engine c.requires.event c.args.plan c.requires.is (d, c.in-Some-pushed.message)
    (sym (ap (λ p. p.pushed) c.plan.view_is) ∙ c.in-Some-pushed.is)).room

pub push-requires-clause-admitted : goal.push-requires-clause-admitted
push-requires-clause-admitted g c =
    let d = c.in-Some-pushed.direction in
    subst (λ (s : Counted). IsAdmitted s.engine.queues c.in-Some-pushed.message) (sym c.self.view_is)
    (pushing c.args.self.now.engine c.requires.event c.args.plan c.requires.is (d, c.in-Some-pushed.message)
    (sym (ap (λ p. p.pushed) c.plan.view_is) ∙ c.in-Some-pushed.is)).admitted

pub returns-in-Some-pushed-clause-next : goal.returns-in-Some-pushed-clause-next
returns-in-Some-pushed-clause-next g c = λ event is.
    let d = c.in-Some-pushed.direction in
    let m = c.in-Some-pushed.message in
    c.push.ensures
    ∙ ap (λ (s : Counted). record (network s.engine) { queues = with_message d m (network s.engine).queues })
    c.self.view_is
    ∙ sym (pushing c.args.self.now.engine event c.args.plan is (d, m) (sym (ap (λ p. p.pushed) c.plan.view_is)
    ∙ c.in-Some-pushed.is)).next

pub returns-in_default-pushed-clause-next : goal.returns-in_default-pushed-clause-next
returns-in_default-pushed-clause-next g c = λ event is.
    let taken = sym (ap (λ p. p.taken) c.plan.view_is) ∙ ap (option_map (λ t. t.value)) c.in_default-taken.is in
    ap (λ (s : Counted). network s.engine) c.self.view_is
    ∙ sym (nothing_done c.args.self.now.engine event c.args.plan is (sym (ap (λ p. p.pushed) c.plan.view_is)
    ∙ c.in_default-pushed.is) taken (sym (ap (λ p. p.edited) c.plan.view_is) ∙ c.in_default.is))
