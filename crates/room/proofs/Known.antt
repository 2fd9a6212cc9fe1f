-- The site of a receiver that was compared, and what a delivery leaves of the configuration.
use Rattle.std.proofs.Common.{◌≡◌, List, [], ◌∷◌, Option, Some, None, refl, sym, ap, ◌∙◌}
use Rattle.std.proofs.lemmas.Option.{none-some, same_Some}
use Rattle.net_prefix.specs.declared.addr.Addr.{Addr}
use Rattle.net_conf.specs.RouterSites.{router_site}
use Rattle.net_conf.specs.declared.refusal.Refusal.{Refusal}
use Rattle.session_queue.specs.declared.message.Message.{Message}
use Rattle.session_queue.specs.declared.direction.Direction.{Direction}
use Rattle.reference_machine.specs.Network.{Network, messages_in}
use Rattle.reference_machine.specs.Machine.{step, unless_refused, head_step, delivery_step, delivery_refusal, taken, with_sent}
use Rattle.cell_engine.specs.State.{State, network}
use Rattle.room.specs.Books.{RoomBook}
use Rattle.room.specs.Jobs.{Job, IsSeenIn, site_in}
use Rattle.room.specs.Commits.{delivery_of}

-- the receiver's site is in the one room what it is in the other
abbrev pub IsKnown : RoomBook → RoomBook → Option Addr → Type 0
IsKnown room now known = (r : Addr) → known ≡ Some r → router_site room.engine.conf r ≡ router_site now.engine.conf r

pub none_known : (room now : RoomBook) → IsKnown room now None
none_known room now r is = absurd (none-some r is)

pub known_site : (room now : RoomBook) (known : Option Addr) (x : Job) → IsKnown room now known → IsSeenIn room x →
    known ≡ Some x.direction.to → x.site ≡ site_in now x.direction
known_site room now known x is seen at = seen.site ∙ is x.direction.to at

pub site_known : (room now : RoomBook) (x : Job) → IsSeenIn room x → x.site ≡ site_in now x.direction →
    IsKnown room now (Some x.direction.to)
site_known room now x seen site r is =
    let to : x.direction.to ≡ r = same_Some x.direction.to r is in
    ap (router_site room.engine.conf) (sym to) ∙ sym seen.site ∙ site ∙ ap (router_site now.engine.conf) to

-- a delivery leaves the configuration
conf_delivered : (s : Network) (d : Direction) → (delivery_step s d).next.conf ≡ s.conf
unfolding delivery_step taken with_sent
conf_delivered s d = by (delivery_refusal s.conf d) (messages_in s.queues d)
  where
    by : (o : Option Refusal) (ms : Option (List Message)) → (unless_refused o s (head_step s d ms)).next.conf ≡ s.conf
    by (Some r) ms = refl
    by None None = refl
    by None (Some []) = refl
    by None (Some (m ∷ ms)) = refl

pub conf_after_delivery : (e e' : State) (x : Job) → network e' ≡ (step (network e) (delivery_of x)).next →
    e'.conf ≡ e.conf
unfolding network
conf_after_delivery e e' x is = ap (λ n. n.conf) is ∙ conf_delivered (network e) x.direction

pub conf_still : (e e' : State) → network e' ≡ network e → e'.conf ≡ e.conf
unfolding network
conf_still e e' is = ap (λ n. n.conf) is
