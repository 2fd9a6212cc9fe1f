-- The state of a network: what is configured, what each router has received, and what is on its way. Nothing else.
use Rattle.std.specs.Prelude.{Bool, ◌&&◌, List, [], ◌∷◌, ◌++◌, map, filter, Option, option_map, find, if◌then◌else◌}
use Rattle.std.specs.Map.{remove_entry}
use Rattle.std.specs.BTreeMap.{insert_entry, is_at}
use Rattle.std.specs.declared.cmp.Ordering.{Ordering}
use Rattle.std.specs.Ordering.{is_lt, is_gt, ordering_then}
use Rattle.net_prefix.specs.declared.addr.Addr.{Addr}
use Rattle.net_prefix.specs.Address.{same_addr, addr_cmp}
use Rattle.net_prefix.specs.Prefix.{prefix_cmp}
use Rattle.path_attr.specs.declared.attr.Attr.{Attr}
use Rattle.session_queue.specs.declared.message.Message.{Message}
use Rattle.session_queue.specs.Waiting.{direction_cmp}
use Rattle.net_conf.specs.Configuration.{Configuration}
use Rattle.reference_machine.specs.declared.rows.RouteKey.{RouteKey}
use Rattle.session_queue.specs.declared.direction.Direction.{Direction}
use Rattle.reference_machine.specs.declared.rows.Queue.{Queue}

-- received: the Adj-RIBs-In of all routers, unprocessed (RFC 4271, 3.2), by receiver, prefix and sender;
-- queues: the messages on their way, by sender and receiver, the head first
pub record Network : Type 0 where
  pub conf : Configuration
  pub received : List (RouteKey × Attr)
  pub queues : List Queue

-- RECEIVED ROUTES

-- by receiver, then by prefix, then by sender
abbrev pub route_cmp : RouteKey → RouteKey → Ordering
route_cmp k l = ordering_then (addr_cmp k.to l.to)
    (ordering_then (prefix_cmp k.prefix l.prefix) (addr_cmp k.from l.from))

-- what was received, with this route in place of any of its key
abbrev pub with_route : RouteKey → Attr → List (RouteKey × Attr) → List (RouteKey × Attr)
with_route k attr es = insert_entry route_cmp es k attr

-- what was received, without the route of the key
abbrev pub without_route : RouteKey → List (RouteKey × Attr) → List (RouteKey × Attr)
without_route k es = remove_entry (is_at (route_cmp k)) es

-- what the router has received
abbrev pub received_by : Addr → List (RouteKey × Attr) → List (RouteKey × Attr)
received_by r es = filter (λ e. same_addr e.0.to r) es

abbrev pub is_between : Addr → Addr → (RouteKey × Attr) → Bool
is_between r u e = same_addr e.0.to r && same_addr e.0.from u

-- what the router has received from the peer
abbrev pub routes_from : Addr → Addr → List (RouteKey × Attr) → List (RouteKey × Attr)
routes_from r u es = filter (is_between r u) es

-- QUEUES

abbrev pub is_of : Direction → Queue → Bool
is_of d q = same_addr q.of.from d.from && same_addr q.of.to d.to

-- the messages on their way in the direction, where there is a session
abbrev pub messages_in : List Queue → Direction → Option (List Message)
messages_in qs d = option_map (λ q. q.messages) (find (is_of d) qs)

-- the queues and an empty one for the direction, in order
abbrev pub with_direction : Direction → List Queue → List Queue
with_direction d qs = filter (λ q. is_gt (direction_cmp d q.of)) qs
    ++ (record { of = d; messages = [] } ∷ filter (λ q. is_lt (direction_cmp d q.of)) qs)

-- the queue with more messages at its end
abbrev pub with_more : Queue → List Message → Queue
with_more q more = record q { messages = q.messages ++ more }

-- the queue with the message at its end, if it is that of the direction
abbrev pub with_one_more : Direction → Message → Queue → Queue
with_one_more d m q = if is_of d q then with_more q (m ∷ []) else q

-- the queues, with a message at the end of that of the direction
abbrev pub with_message : Direction → Message → List Queue → List Queue
with_message d m qs = map (with_one_more d m) qs

-- all messages but the head
abbrev pub rest_of : List Message → List Message
rest_of [] = []
rest_of (m ∷ ms) = ms

-- the queue without its head, if it is that of the direction
abbrev pub without_its_head : Direction → Queue → Queue
without_its_head d q = if is_of d q then record q { messages = rest_of q.messages } else q

-- the queues, without the head of that of the direction
abbrev pub without_head : Direction → List Queue → List Queue
without_head d qs = map (without_its_head d) qs
