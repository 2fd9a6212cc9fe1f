-- Where a message waits, the network is not quiet.
use Rattle.std.proofs.Common.{◌≡◌, Bool, true, false, not, List, [], ◌∷◌, unwrap_or, refl, sym, ap, ◌∙◌}
use Rattle.std.specs.List.{list_all}
use Rattle.std.proofs.lemmas.Bool.{true≢false, false_from_ne_true, and_parts}
use Rattle.net_prefix.specs.declared.addr.Addr.{Addr}
use Rattle.session_queue.specs.declared.direction.Direction.{Direction}
use Rattle.session_queue.specs.declared.message.Message.{Message}
use Rattle.reference_machine.specs.declared.rows.Queue.{Queue}
use Rattle.reference_machine.specs.Network.{Network, is_of, messages_in}
use Rattle.reference_machine.specs.Reports.{is_empty, is_quiet}
use Rattle.convergence.specs.Waiting.{waits}

no_messages : (ms : List Message) → is_empty ms ≡ true → ms ≡ []
no_messages [] h = refl
no_messages (m ∷ ms) h = absurd (true≢false (sym h))

quiet_step : (b : Bool) (d : Direction) (q : Queue) (qs : List Queue) → is_of d q ≡ b → q.messages ≡ [] →
    unwrap_or (messages_in qs d) [] ≡ [] → unwrap_or (messages_in (q ∷ qs) d) [] ≡ []
quiet_step true d q qs is none rest = rw is none
quiet_step false d q qs is none rest = rw is rest

quiet_at : (d : Direction) (qs : List Queue) → list_all (λ q. is_empty q.messages) qs ≡ true →
    unwrap_or (messages_in qs d) [] ≡ []
quiet_at d [] h = refl
quiet_at d (q ∷ qs) h =
    let parts = and_parts (is_empty q.messages) (list_all (λ x. is_empty x.messages) qs) h in
    quiet_step (is_of d q) d q qs refl (no_messages q.messages parts.0) (quiet_at d qs parts.1)

pub not_quiet : (s : Network) (from to : Addr) → waits s from to ≡ true → is_quiet s ≡ false
unfolding is_quiet
not_quiet s from to w = false_from_ne_true (list_all (λ q. is_empty q.messages) s.queues) (λ quiet.
    true≢false (sym w ∙ ap (λ ms. not (is_empty ms)) (quiet_at (record { from = from; to = to }) s.queues quiet)))
