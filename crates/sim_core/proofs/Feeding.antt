-- A feed without a plan: what is fed is put on its way, after the state has grown.
use Rattle.std.proofs.Common.{◌≡◌, ℕ, None, [], inl, refl, sym, ap, subst, ◌∙◌}
use Rattle.net_conf.specs.declared.refusal.Refusal.TheVariants.{Memory}
use Rattle.sim_event.specs.declared.event.Event.TheVariants.{Feed as AFeed}
use Rattle.sim_event.specs.declared.event.Feed.{Feed}
use Rattle.sim_event.specs.declared.reply.Reply.TheVariants.{Done, Refused}
use Rattle.reference_machine.specs.Network.{Network}
use Rattle.reference_machine.specs.Machine.{after_feed, feed_refusal, IsStep}
use Rattle.cell_engine.specs.State.{State, network}
use Rattle.sim_core.specs.Counting.{raised, Counts}
use Rattle.sim_core.proofs.Accepted.{feed_done}
use Rattle.sim_core.proofs.Answered.{denied_by}
use Rattle.sim_core.proofs.Refusals.{feed_wants}

-- it decides nothing
pub counts : (s : Network) (f : Feed) (n : ℕ) → n ≡ raised n 0 → Counts s (AFeed f) Done n n
counts s f n stays = record { cells = []; refreshes = refl; is = stays }

module _ (e : State) (f : Feed) (none : feed_refusal e.conf f ≡ None) where
  pub feeds : (s : Network) → s ≡ after_feed (network e) f → IsStep (network e) (AFeed f) Done s
  unfolding network
  feeds s next = inl (
    sym (ap (λ o. o.reply) (feed_done (network e) f none)),
    next ∙ sym (ap (λ o. o.next) (feed_done (network e) f none)),
  )

  pub wants : (e' : State) → network e' ≡ network e → IsStep (network e) (AFeed f) (Refused Memory) (network e')
  wants e' same = subst (λ n. IsStep n (AFeed f) (Refused Memory) (network e')) same
      (denied_by e' (AFeed f) Memory (feed_wants e e' same f none))
