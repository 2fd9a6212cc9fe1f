-- Where messages wait in the engine, they wait in its network.
use Rattle.std.proofs.Common.{◌≡◌, ◌<◌, Bool, true, false, not, List, [], ◌∷◌, length, Option, Some, None, IfSome, IfNone, slice_get, unwrap_or, if◌then◌else◌, refl, sym, ap, ◌∙◌, subst, arith}
use Rattle.std.proofs.lemmas.Option.{IfSome_then}
use Rattle.net_prefix.specs.declared.addr.Addr.{Addr}
use Rattle.session_queue.specs.declared.message.Message.{Message}
use Rattle.session_queue.specs.Telling.{prefix_of}
use Rattle.session_queue.specs.Waiting.{queue_at, IsPast, SkipsNone}
use Rattle.net_conf.specs.Configuration.{has_session}
use Rattle.reference_machine.specs.Reports.{is_empty, is_quiet}
use Rattle.cell_engine.specs.State.{State, IsConsistent, network}
use Rattle.cell_engine.proofs.Queues.{messages_of_network}
use Rattle.cell_engine.proofs.Reports.{quiet_by_queues}
use Rattle.convergence.specs.declared.waiting.Queued.{Queued}
use Rattle.convergence.specs.Waiting.{on_way, queued_of, waits, PassesNone, IsNextWaiting}

none_there : (there : Bool) (ms : List Message) → (there ≡ false → ms ≡ []) →
    unwrap_or (if there then Some ms else None) [] ≡ ms
none_there true ms silent = refl
none_there false ms silent = sym (silent refl)

some_there : (ms : List Message) → 0 < length ms → not (is_empty ms) ≡ true
some_there [] h = absurd (omega arith)
some_there (m ∷ ms) h = refl

-- what waits, by the head
pub queued_none : (ms : List Message) → slice_get ms 0 ≡ None → queued_of ms ≡ None
queued_none [] is = refl
queued_none (m ∷ ms) is = absurd (cc)

pub queued_some : (ms : List Message) (m : Message) (queued : Queued) → slice_get ms 0 ≡ Some m →
    queued ≡ record { count = length ms; prefix = prefix_of m } → queued_of ms ≡ Some queued
queued_some [] m queued is same = absurd (cc)
queued_some (x ∷ ms) m queued is same =
    let first : x ≡ m = cc in
    ap (λ (y : Message). Some (record { count = length (x ∷ ms); prefix = prefix_of y })) first ∙ ap Some (sym same)

module _ (e : State) (sound : IsConsistent e) where
  pub same_messages : (f t : Addr) → on_way (network e) f t ≡ queue_at e.queues f t
  same_messages f t = ap (λ o. unwrap_or o []) (messages_of_network e sound (record { from = f; to = t }))
      ∙ none_there (has_session e.conf f t) (queue_at e.queues f t) (sound.silent f t)

  full_waits : (f t : Addr) → 0 < length (queue_at e.queues f t) → waits (network e) f t ≡ true
  full_waits f t full = ap (λ ms. not (is_empty ms)) (same_messages f t) ∙ some_there (queue_at e.queues f t) full

  empty_waits : (f t : Addr) → queue_at e.queues f t ≡ [] → waits (network e) f t ≡ false
  empty_waits f t none = ap (λ ms. not (is_empty ms)) (same_messages f t ∙ none)

  passes : (start found : Option (Addr × Addr)) → SkipsNone e.queues start found → PassesNone (network e) start found
  passes start None skips = λ f t past. empty_waits f t (skips f t past)
  passes start (Some d) skips = λ f t past before. empty_waits f t (skips f t past before)

  quiet_if : (start found : Option (Addr × Addr)) → SkipsNone e.queues start found → start ≡ None →
      IfNone found (is_quiet (network e) ≡ true)
  quiet_if start None skips first = (quiet_by_queues e sound).1 (λ f t.
      let all : SkipsNone e.queues None None = subst (λ o. SkipsNone e.queues o None) first skips in all f t tt)
  quiet_if start (Some d) skips first = tt

  -- the next direction of the engine's queues that has a message is the next in which one waits
  pub next_in_queues : (start found : Option (Addr × Addr)) →
      IfSome found (λ d. 0 < length (queue_at e.queues d.0 d.1)) → IfSome found (IsPast start) →
      SkipsNone e.queues start found → IsNextWaiting (network e) start found
  next_in_queues start found full past skips = record {
    waiting = IfSome_then found full (λ d some. full_waits d.0 d.1 some);
    past = past;
    none_between = passes start found skips;
    quiet = quiet_if start found skips;
  }
