-- For whom an event can put messages on their way.
use Rattle.std.specs.Prelude.{Bool, true, false, Option, Some, None}
use Rattle.net_prefix.specs.declared.addr.Addr.{Addr}
use Rattle.net_conf.specs.Scopes.{scope, router_in}
use Rattle.sim_event.specs.declared.event.Event.{Event}
use Rattle.sim_event.specs.declared.event.Event.TheVariants.{Edit as AnEdit, Feed as AFeed, Deliver, Ask as AnAsk}
use Rattle.scheduler.specs.declared.receivers.Receivers.{Receivers}
use Rattle.scheduler.specs.declared.receivers.Receivers.TheVariants.{Nobody, One, OfSender, Everybody}

-- the receivers of the one router whose decisions change, or any
abbrev pub receivers_of_router : Option Addr → Receivers
receivers_of_router (Some router) = OfSender router
receivers_of_router None = Everybody

-- a question sends nothing; a feed is for its receiver; a delivery makes its receiver send; an edit makes the router
-- send whose part of the configuration it changes, or any
abbrev pub receivers_of : Event → Receivers
receivers_of (AnAsk q) = Nobody
receivers_of (AFeed f) = One f.to
receivers_of (Deliver from to) = OfSender to
receivers_of (AnEdit e) = receivers_of_router (router_in (scope e))

-- no job is taken while an edit is asked for
abbrev pub is_edit : Event → Bool
is_edit (AnEdit e) = true
is_edit _ = false
