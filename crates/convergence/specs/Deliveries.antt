-- Deliveries one after another, and how they end (own).
use Rattle.std.specs.Prelude.{◌≡◌, ℕ, ◌+◌, ◌<◌, ◌≤◌, Bool, true, false, List, [], ◌∷◌, length, count_by}
use Rattle.session_queue.specs.declared.message.MessageKind.{MessageKind}
use Rattle.session_queue.specs.declared.message.MessageKind.TheVariants.{Update, Withdraw}
use Rattle.sim_event.specs.declared.event.Event.{Event}
use Rattle.sim_event.specs.declared.event.Event.TheVariants.{Deliver}
use Rattle.sim_event.specs.declared.reply.Reply.{Reply}
use Rattle.sim_event.specs.declared.reply.Reply.TheVariants.{Took}
use Rattle.reference_machine.specs.Network.{Network}
use Rattle.reference_machine.specs.Reports.{is_quiet}
use Rattle.reference_machine.specs.Machine.{step}
use Rattle.convergence.specs.declared.delivery.Delivery.{Delivery}
use Rattle.convergence.specs.declared.delivery.Tally.{Tally}
use Rattle.convergence.specs.declared.ending.Ending.{Ending}
use Rattle.convergence.specs.declared.ending.Ending.TheVariants.{Converged, Limit, OutOfMemory}
use Rattle.convergence.specs.declared.ending.Advance.{Advance}
use Rattle.convergence.specs.declared.ending.Advance.TheVariants.{Took as TookOne, Ended}

-- the delivery as an event of the machine, and the reply that accepts it
abbrev pub event_of : Delivery → Event
event_of d = Deliver d.from d.to

abbrev pub reply_of : Delivery → Reply
reply_of d = Took d.prefix d.kind

-- the messages were taken one after another, each in a step of the machine's own
abbrev pub AreTaken : Network → List Delivery → Network → Type 0
AreTaken s [] s' = s' ≡ s
AreTaken s (d ∷ ds) s' = ((step s (event_of d)).reply ≡ reply_of d) × AreTaken (step s (event_of d)).next ds s'

-- HOW MANY

abbrev pub is_update : MessageKind → Bool
is_update Update = true
is_update Withdraw = false

abbrev pub is_withdrawal : MessageKind → Bool
is_withdrawal Update = false
is_withdrawal Withdraw = true

abbrev pub tally_of : List Delivery → Tally
tally_of ds = record {
  made = length ds;
  updates = count_by (λ d. is_update d.kind) ds;
  withdrawals = count_by (λ d. is_withdrawal d.kind) ds;
}

abbrev pub no_delivery : Tally
no_delivery = record { made = 0; updates = 0; withdrawals = 0 }

-- one more
abbrev pub counted : Tally → MessageKind → Tally
counted t Update = record t { made = t.made + 1; updates = t.updates + 1 }
counted t Withdraw = record t { made = t.made + 1; withdrawals = t.withdrawals + 1 }

-- HOW IT ENDS

-- after k deliveries of n at most: no message waits; or one does, and n were made; or one does, and there was no memory
-- for its delivery
abbrev pub EndsBy : Ending → Network → ℕ → ℕ → Type 0
EndsBy Converged s n k = is_quiet s ≡ true
EndsBy Limit s n k = (is_quiet s ≡ false) × (k ≡ n)
EndsBy OutOfMemory s n k = is_quiet s ≡ false

-- at most n messages that waited were delivered, one after another, in whatever order, and these are counted
pub record AreDelivered (s : Network) (n : ℕ) (tally : Tally) (s' : Network) : Type 0 where
  pub deliveries : List Delivery
  pub taken : AreTaken s deliveries s'
  pub tally_is : tally ≡ tally_of deliveries
  pub few : length deliveries ≤ n

-- they were, and it ended so
pub record IsConvergence (s : Network) (n : ℕ) (tally : Tally) (ending : Ending) (s' : Network) : Type 0 where
  pub delivered : AreDelivered s n tally s'
  pub ends : EndsBy ending s' n tally.made

-- one message more was delivered; or nothing has changed, and it ended
abbrev pub IsAdvance : Network → ℕ → Tally → Advance → Tally → Network → Type 0
IsAdvance s n t (TookOne d) t' s' = AreTaken s (d ∷ []) s' × (t.made < n) × (t' ≡ counted t d.kind)
IsAdvance s n t (Ended ending) t' s' = (s' ≡ s) × (t' ≡ t) × EndsBy ending s n t.made
