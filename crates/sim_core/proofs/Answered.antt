-- What the machine answers to a question.
use Rattle.std.proofs.Common.{◌≡◌, ℕ, Err, None, [], inl, inr, refl, sym, ap, ◌∙◌}
use Rattle.net_conf.specs.declared.refusal.Refusal.{Refusal}
use Rattle.sim_event.specs.declared.event.Event.{Event}
use Rattle.sim_event.specs.declared.event.Event.TheVariants.{Ask as AnAsk}
use Rattle.sim_event.specs.declared.event.Ask.{Ask}
use Rattle.sim_event.specs.declared.reply.Report.{Report}
use Rattle.sim_event.specs.declared.reply.Reply.TheVariants.{Report as AReport, Refused}
use Rattle.reference_machine.specs.Network.{Network}
use Rattle.reference_machine.specs.Machine.{IsStep, ask_refusal, report_of}
use Rattle.cell_engine.specs.State.{State, network}
use Rattle.sim_core.specs.Answers.{IsAnswer}
use Rattle.sim_core.specs.Counting.{Counts, raised}
use Rattle.sim_core.specs.Plans.{IsRefused}
use Rattle.sim_core.proofs.Accepted.{question_answered}
use Rattle.sim_core.proofs.Refusals.{question_denied}

pub answered : (e : State) (q : Ask) (r : Report) → ask_refusal (network e).conf q ≡ None →
    r ≡ report_of (network e) q → IsStep (network e) (AnAsk q) (AReport r) (network e)
answered e q r none is =
    let does = question_answered (network e) q none in
    inl (ap AReport is ∙ sym (ap (λ o. o.reply) does), sym (ap (λ o. o.next) does))

-- a refusal, for the machine's own reason or for want of memory, is a step
pub denied_by : (e : State) (event : Event) (r : Refusal) → IsRefused e event r →
    IsStep (network e) event (Refused r) (network e)
denied_by e event r (inl is) = inl (sym (ap (λ o. o.reply) is), sym (ap (λ o. o.next) is))
denied_by e event r (inr wants) = inr (ap Refused wants.0, refl, wants.1, wants.2)

pub denied : (e : State) (q : Ask) (r : Refusal) → IsAnswer (network e) q (Err r) →
    IsStep (network e) (AnAsk q) (Refused r) (network e)
denied e q r is = denied_by e (AnAsk q) r (question_denied e q r is)

pub counted : (s : Network) (q : Ask) (r : Report) (n : ℕ) → n ≡ raised n 0 → Counts s (AnAsk q) (AReport r) n n
counted s q r n stays = record { cells = []; refreshes = refl; is = stays }
