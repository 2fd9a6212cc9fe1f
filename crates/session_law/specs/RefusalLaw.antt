-- What is told where an event is refused, and memory may be wanted too: want of memory comes last (own).
use Rattle.std.specs.Prelude.{◌≡◌}
use Rattle.net_conf.specs.declared.refusal.Refusal.{Refusal}
use Rattle.sim_event.specs.declared.event.Event.{Event}
use Rattle.sim_event.specs.declared.event.Event.TheVariants.{Ask as AnAsk}
use Rattle.sim_event.specs.declared.event.Ask.TheVariants.{Quiet}
use Rattle.sim_event.specs.declared.reply.Reply.{Reply}
use Rattle.sim_event.specs.declared.reply.Reply.TheVariants.{Refused}
use Rattle.reference_machine.specs.Network.{Network}
use Rattle.reference_machine.specs.Machine.{step, refused, IsStep}

-- an event that the machine refuses is answered by that refusal, whatever memory there is, and nothing changes
abbrev pub RefusalLaw : Type 0
RefusalLaw = (s : Network) (e : Event) (r : Refusal) (reply : Reply) (s' : Network) → step s e ≡ refused r s →
    IsStep s e reply s' → (reply ≡ Refused r) × (s' ≡ s)

-- whether all queues are empty is told, whatever memory there is
abbrev pub QuietIsTold : Type 0
QuietIsTold = (s : Network) (reply : Reply) (s' : Network) → IsStep s (AnAsk Quiet) reply s' →
    reply ≡ (step s (AnAsk Quiet)).reply
