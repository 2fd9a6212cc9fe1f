-- What each peer is told by what a router sends. No public contract cites this file.
use Rattle.std.specs.Prelude.{List, [], map, filter, if◌then◌else◌}
use Rattle.net_prefix.specs.declared.addr.Addr.{Addr}
use Rattle.net_prefix.specs.Address.{same_addr}
use Rattle.session_queue.specs.declared.message.Message.{Message}

-- the messages to the peer, in order
abbrev pub told : Addr → List (Addr × Message) → List Message
told t sends = map (λ e. e.1) (filter (λ e. same_addr t e.0) sends)

-- what goes from one to another where the router sends this
abbrev pub told_from : Addr → List (Addr × Message) → Addr → Addr → List Message
told_from r sends f t = if same_addr f r then told t sends else []
