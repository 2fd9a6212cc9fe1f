-- The session law: what a router has received from a peer, with what is on its way from there put over it, is what the
-- peer advertises to it now: only changes are sent (RFC 4271, 9.2), and they come in order.
use Rattle.std.specs.Prelude.{◌≡◌, true, List, fold, Option, Some, None, if◌then◌else◌}
use Rattle.net_prefix.specs.declared.addr.Addr.{Addr}
use Rattle.net_prefix.specs.Prefix.{Prefix, same_prefix}
use Rattle.path_attr.specs.declared.attr.Attr.{Attr}
use Rattle.session_queue.specs.declared.message.Message.{Message}
use Rattle.session_queue.specs.declared.message.Message.TheVariants.{Update, Withdraw}
use Rattle.sim_event.specs.declared.event.Event.{Event}
use Rattle.sim_event.specs.declared.reply.Reply.{Reply}
use Rattle.reference_machine.specs.Network.{Network}
use Rattle.reference_machine.specs.Decision.{route_from}
use Rattle.reference_machine.specs.Advertising.{advertised, sends}
use Rattle.reference_machine.specs.Reports.{queue, is_quiet}
use Rattle.reference_machine.specs.Machine.{nothing, IsRun}

-- what is held for the prefix once the message has been taken
abbrev pub after_message : Prefix → Option Attr → Message → Option Attr
after_message p held (Update q attr) = if same_prefix p q then Some attr else held
after_message p held (Withdraw q) = if same_prefix p q then None else held

-- what is held for the prefix once the messages have been taken, the head first
abbrev pub after_messages : Prefix → Option Attr → List Message → Option Attr
after_messages p held ms = fold (after_message p) held ms

-- what t has received from r for the prefix, with what is on its way put over it
unfoldable pub applied : Network → Addr → Addr → Prefix → Option Attr
applied s r t p = after_messages p (route_from s.received t p r) (queue s (record { from = r; to = t }))

-- after any run, over every session of a router that is up: what the peer has received, with what is on its way put
-- over it, is what the router advertises to it now
abbrev pub SessionLaw : Type 0
SessionLaw = (es : List Event) (rs : List Reply) (s : Network) → IsRun nothing es rs s → (r t : Addr) (p : Prefix) →
    sends s.conf r t ≡ true → applied s r t p ≡ advertised s r t p

-- so, where no message is on its way, what each peer has received is what the router advertises to it now
abbrev pub QuietLaw : Type 0
QuietLaw = (es : List Event) (rs : List Reply) (s : Network) → IsRun nothing es rs s → is_quiet s ≡ true →
    (r t : Addr) (p : Prefix) → sends s.conf r t ≡ true → route_from s.received t p r ≡ advertised s r t p
