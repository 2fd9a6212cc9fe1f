-- A delivery without a plan: the head is taken.
use Rattle.std.proofs.Common.{◌≡◌, Bool, true, false, ℕ, [], ◌∷◌, slice_get, length, Some, None, is_some, if◌then◌else◌, inl, refl, sym, ap, subst, ◌∙◌}
use Rattle.net_prefix.specs.declared.addr.Addr.{Addr}
use Rattle.net_prefix.specs.Prefix.{Prefix}
use Rattle.net_conf.specs.Configuration.{Configuration}
use Rattle.net_conf.specs.Costs.{is_up}
use Rattle.net_conf.specs.RouterSites.{router_site}
use Rattle.net_conf.specs.declared.refusal.Refusal.TheVariants.{Memory}
use Rattle.session_queue.specs.declared.direction.Direction.{Direction}
use Rattle.session_queue.specs.declared.message.Message.{Message}
use Rattle.session_queue.specs.Telling.{prefix_of, kind_of}
use Rattle.session_queue.specs.Waiting.{queue_at}
use Rattle.sim_event.specs.declared.event.Event.TheVariants.{Deliver}
use Rattle.sim_event.specs.declared.reply.Reply.TheVariants.{Took, Refused}
use Rattle.reference_machine.specs.Network.{Network, messages_in}
use Rattle.reference_machine.specs.Machine.{head_step, delivery_refusal, IsStep}
use Rattle.cell_engine.specs.State.{State, IsConsistent, network}
use Rattle.sim_core.specs.Counting.{decided_at, raised, Counts}
use Rattle.sim_core.proofs.Accepted.{delivery_takes, prefix_taken, delivery_is, delivery_up}
use Rattle.sim_core.proofs.Answered.{denied_by}
use Rattle.sim_core.proofs.Refusals.{delivery_wants}

-- a router decides one route, a virtual peer none
pub one_decided : (c : Configuration) (a : Addr) (p : Prefix) (decides : Bool) → decides ≡ is_some (router_site c a) →
    (if decides then 1 else 0) ≡ length (decided_at c a p)
one_decided c a p decides is = ap (λ b. if b then 1 else 0) is ∙ by (is_some (router_site c a))
  where
    by : (b : Bool) → (if b then 1 else 0) ≡ length {A = Addr × Prefix} (if b then (a, p) ∷ [] else [])
    by true = refl
    by false = refl

module _ (e : State) (sound : IsConsistent e) (d : Direction) (none : delivery_refusal e.conf d ≡ None) (m : Message)
    (first : slice_get (queue_at e.queues d.from d.to) 0 ≡ Some m) where
  -- it is counted as one decision of a router
  pub counts : (n more : ℕ) → ((p : Prefix) → more ≡ length (decided_at e.conf d.to p)) →
      Counts (network e) (Deliver d.from d.to) (Took (prefix_of m) (kind_of m)) n (raised n more)
  unfolding network
  counts n more many =
      let p = prefix_of m in
      record {
        cells = decided_at e.conf d.to p;
        refreshes = λ q k took. ap (decided_at e.conf d.to) (prefix_taken e sound d none m first q k took);
        is = ap (raised n) (many p);
      }

  -- a queue has a head only where the session is up
  pub up_here : is_up e.conf d.from d.to ≡ true
  up_here = delivery_up e.conf d none

  -- the head taken is the machine's step
  pub takes : (s : Network) → s ≡ (head_step (network e) d (messages_in (network e).queues d)).next →
      IsStep (network e) (Deliver d.from d.to) (Took (prefix_of m) (kind_of m)) s
  unfolding network
  takes s next = inl (
    sym (delivery_takes e sound d none m first),
    next ∙ sym (ap (λ o. o.next) (delivery_is (network e) d none)),
  )

  -- so it is for want of memory to stay
  pub wants : (e' : State) → network e' ≡ network e →
      IsStep (network e) (Deliver d.from d.to) (Refused Memory) (network e')
  wants e' same = subst (λ n. IsStep n (Deliver d.from d.to) (Refused Memory) (network e')) same
      (denied_by e' (Deliver d.from d.to) Memory (delivery_wants e e' same sound d m none first))
