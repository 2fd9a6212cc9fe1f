-- How many routes are decided anew, and how they are counted.
use Rattle.std.specs.Prelude.{◌≡◌, ◌+◌, ℕ, Bool, true, false, nat_le, List, [], ◌∷◌, length, is_some, if◌then◌else◌}
use Rattle.net_prefix.specs.declared.addr.Addr.{Addr}
use Rattle.net_prefix.specs.Prefix.{Prefix}
use Rattle.session_queue.specs.declared.message.MessageKind.{MessageKind}
use Rattle.net_conf.specs.Configuration.{Configuration}
use Rattle.net_conf.specs.RouterSites.{router_site}
use Rattle.sim_event.specs.declared.event.Event.{Event}
use Rattle.sim_event.specs.declared.event.Event.TheVariants.{Edit as AnEdit, Feed as AFeed, Deliver, Ask as AnAsk}
use Rattle.sim_event.specs.declared.reply.Reply.{Reply}
use Rattle.sim_event.specs.declared.reply.Reply.TheVariants.{Took}
use Rattle.reference_machine.specs.Network.{Network}
use Rattle.reference_machine.specs.Machine.{step, is_refusal, IsStep}
use Rattle.cell_engine.specs.State.{State}
use Rattle.cell_engine.specs.Decisions.{IsRefreshed}

-- the engine, and how many routes it has decided anew
pub record Counted : Type 0 where
  pub engine : State
  pub decided : ℕ

-- the router's route to the prefix: a virtual peer decides none
abbrev pub decided_at : Configuration → Addr → Prefix → List (Addr × Prefix)
decided_at c r p = if is_some (router_site c r) then (r, p) ∷ [] else []

-- the routes that an event which is not refused decides anew: an edit those that it touches, a delivery the receiver's
-- one
abbrev pub Refreshes : Network → Event → List (Addr × Prefix) → Type 0
Refreshes s (AnEdit edit) cells = IsRefreshed s (step s (AnEdit edit)).next cells
Refreshes s (Deliver a b) cells = (p : Prefix) (k : MessageKind) → (step s (Deliver a b)).reply ≡ Took p k →
    cells ≡ decided_at s.conf b p
Refreshes s (AFeed f) cells = cells ≡ []
Refreshes s (AnAsk q) cells = cells ≡ []

abbrev pub u64_max : ℕ
u64_max = 18446744073709551615

-- the count, raised: it stops at the greatest number
abbrev pub raised : ℕ → ℕ → ℕ
raised n k = if nat_le (n + k) u64_max then n + k else u64_max

-- the count rises by the number of routes that the event decides anew
pub record IsRaised (s : Network) (event : Event) (n m : ℕ) : Type 0 where
  pub cells : List (Addr × Prefix)
  pub refreshes : Refreshes s event cells
  pub is : m ≡ raised n (length cells)

-- and stays where the event is refused
abbrev pub CountsIf : Bool → Network → Event → ℕ → ℕ → Type 0
CountsIf true s event n m = m ≡ n
CountsIf false s event n m = IsRaised s event n m

abbrev pub Counts : Network → Event → Reply → ℕ → ℕ → Type 0
Counts s event reply n m = CountsIf (is_refusal reply) s event n m

-- a run of the machine that takes the count from n to m, event by event
abbrev pub IsCountedRun : Network → ℕ → List Event → List Reply → Network → ℕ → Type 0
IsCountedRun s n [] [] s' m = (s' ≡ s) × (m ≡ n)
IsCountedRun s n (e ∷ es) (r ∷ rs) s' m = (mid : Network) × (k : ℕ) × IsStep s e r mid × Counts s e r n k
    × IsCountedRun mid k es rs s' m
IsCountedRun s n [] (r ∷ rs) s' m = ⊥
IsCountedRun s n (e ∷ es) [] s' m = ⊥
