-- What holds of a network that a run leads to: a message that waits is taken where it is delivered.
use Rattle.std.proofs.Common.{◌≡◌, ⊎_elim, Bool, true, false, not, ◌&&◌, List, [], ◌∷◌, ◌++◌, Option, Some, None, unwrap_or, refl, sym, ap, ◌∙◌, subst}
use Rattle.std.proofs.lemmas.Bool.{true≢false}
use Rattle.net_prefix.specs.declared.addr.Addr.{Addr}
use Rattle.session_queue.specs.declared.direction.Direction.{Direction}
use Rattle.session_queue.specs.declared.message.Message.{Message}
use Rattle.session_queue.specs.Telling.{prefix_of, kind_of}
use Rattle.net_conf.specs.declared.refusal.Refusal.{Refusal}
use Rattle.net_conf.specs.declared.refusal.Refusal.TheVariants.{NoRouter, NoSession, SessionDown, Memory}
use Rattle.net_conf.specs.Configuration.{Configuration, has_node, has_session}
use Rattle.net_conf.specs.Costs.{is_up}
use Rattle.net_conf.specs.Edits.{first_of}
use Rattle.sim_event.specs.declared.event.Event.{Event}
use Rattle.sim_event.specs.declared.event.Event.TheVariants.{Deliver}
use Rattle.sim_event.specs.declared.reply.Reply.{Reply}
use Rattle.sim_event.specs.declared.reply.Reply.TheVariants.{Done, Took, Report as AReport, Refused}
use Rattle.sim_event.specs.declared.reply.Report.{Report}
use Rattle.reference_machine.specs.Network.{Network, messages_in}
use Rattle.reference_machine.specs.Reports.{is_empty}
use Rattle.reference_machine.specs.Machine.{nothing, unless_refused, head_step, delivery_refusal, delivery_step, step, is_refusal, IsStep, IsRun}
use Rattle.session_law.proofs.Configs.{session_either, session_if_up}
use Rattle.session_law.proofs.Told.{IsTidy, IsTold, told_nothing}
use Rattle.session_law.proofs.Runs.{told_step}
use Rattle.convergence.specs.Waiting.{waits, IsReached, WaitingLaw}

-- RUNS

run_more : (es : List Event) (rs : List Reply) (s mid s' : Network) (e : Event) (r : Reply) → IsRun s es rs mid →
    IsStep mid e r s' → IsRun s (es ++ e ∷ []) (rs ++ r ∷ []) s'
run_more [] [] s mid s' e r run one = (s', subst (λ n. IsStep n e r s') run one, refl)
run_more [] (x ∷ xs) s mid s' e r run one = absurd run
run_more (x ∷ xs) [] s mid s' e r run one = absurd run
run_more (x ∷ xs) (y ∷ ys) s mid s' e r run one = (run.0, run.1, run_more xs ys run.0 mid s' e r run.2 one)

-- one step more
pub reached_step : (s s' : Network) (e : Event) (r : Reply) → IsReached s → IsStep s e r s' → IsReached s'
reached_step s s' e r h one = (h.0 ++ e ∷ [], h.1 ++ r ∷ [], run_more h.0 h.1 nothing s s' e r h.2 one)

pub reached_nothing : IsReached nothing
reached_nothing = ([], [], refl)

told_run : (es : List Event) (rs : List Reply) (s s' : Network) → IsTold s → IsRun s es rs s' → IsTold s'
told_run [] [] s s' told run = subst IsTold (sym run) told
told_run [] (r ∷ rs) s s' told run = absurd run
told_run (e ∷ es) [] s s' told run = absurd run
told_run (e ∷ es) (r ∷ rs) s s' told run = told_run es rs run.0 s' (told_step s run.0 e r told run.1) run.2

tidy : (s : Network) → IsReached s → IsTidy s
tidy s h = (told_run h.0 h.1 nothing s told_nothing h.2).tidy

-- A MESSAGE THAT WAITS

up_by : (s : Network) (from to : Addr) (b : Bool) → IsTidy s → is_up s.conf from to ≡ b → waits s from to ≡ true →
    is_up s.conf from to ≡ true
up_by s from to true t is w = is
up_by s from to false t is w =
    absurd (true≢false (sym w ∙ ap (λ ms. not (is_empty ms)) (t.no_message from to is)))

allowed : (c : Configuration) (d : Direction) → has_node c d.from ≡ true → has_node c d.to ≡ true →
    has_session c d.from d.to ≡ true → is_up c d.from d.to ≡ true → delivery_refusal c d ≡ None
unfolding delivery_refusal
allowed c d here there joined up = λ i. first_of (
    (not (here i && there i), NoRouter) ∷ (not (joined i), NoSession) ∷ (not (up i), SessionDown) ∷ [])

-- its delivery is not refused before its queue is looked at
pub none_refused : (s : Network) → IsReached s → (from to : Addr) → waits s from to ≡ true →
    delivery_refusal s.conf (record { from = from; to = to }) ≡ None
none_refused s h from to w =
    let t = tidy s h in
    let up = up_by s from to (is_up s.conf from to) t refl w in
    let joined = session_if_up s.conf from to up in
    allowed s.conf (record { from = from; to = to }) (t.placed from to joined)
    (t.placed to from (sym (session_either s.conf from to) ∙ joined)) joined up

head_taken : (s : Network) (d : Direction) (o : Option (List Message)) → not (is_empty (unwrap_or o [])) ≡ true →
    (m : Message) × ((head_step s d o).reply ≡ Took (prefix_of m) (kind_of m))
head_taken s d None w = absurd (true≢false (sym w))
head_taken s d (Some []) w = absurd (true≢false (sym w))
head_taken s d (Some (m ∷ ms)) w = (m, refl)

-- its delivery takes it
pub step_takes : (s : Network) → IsReached s → (from to : Addr) → waits s from to ≡ true →
    (m : Message) × ((step s (Deliver from to)).reply ≡ Took (prefix_of m) (kind_of m))
unfolding delivery_step
step_takes s h from to w =
    let d : Direction = record { from = from; to = to } in
    let head = head_taken s d (messages_in s.queues d) w in (
      head.0,
      ap (λ o. (unless_refused o s (head_step s d (messages_in s.queues d))).reply) (none_refused s h from to w)
          ∙ head.1,
    )

pub waiting_law : WaitingLaw
waiting_law s h from to w = ap is_refusal (step_takes s h from to w).1

-- WHAT A DELIVERY IS ANSWERED

module _ (s : Network) (h : IsReached s) (from to : Addr) (w : waits s from to ≡ true) (r : Reply) (s' : Network)
    (one : IsStep s (Deliver from to) r s') where
  -- it is refused for want of memory alone, and then nothing has changed
  pub refused_same : (why : Refusal) → r ≡ Refused why → s' ≡ s
  refused_same why is =
      let takes = step_takes s h from to w in
      ⊎_elim
      (λ own. let e : Took (prefix_of takes.0) (kind_of takes.0) ≡ Refused why = sym takes.1 ∙ sym own.0 ∙ is in
      absurd (cc))
      (λ none. none.1) one

  pub not_done : r ≡ Done → ⊥
  not_done is =
      let takes = step_takes s h from to w in
      ⊎_elim
      (λ own. let e : Took (prefix_of takes.0) (kind_of takes.0) ≡ Done = sym takes.1 ∙ sym own.0 ∙ is in cc)
      (λ none. let e : Refused Memory ≡ Done = sym none.0 ∙ is in cc) one

  pub not_report : (x : Report) → r ≡ AReport x → ⊥
  not_report x is =
      let takes = step_takes s h from to w in
      ⊎_elim
      (λ own. let e : Took (prefix_of takes.0) (kind_of takes.0) ≡ AReport x = sym takes.1 ∙ sym own.0 ∙ is in cc)
      (λ none. let e : Refused Memory ≡ AReport x = sym none.0 ∙ is in cc) one
