-- Seats that go on from what they were.
use Rattle.std.proofs.Common.{◌≡◌, [], ◌∷◌, ◌++◌, refl, sym, ap, ◌∙◌, subst, append_assoc, append-nil}
use Rattle.sim_event.specs.declared.event.Event.{Event}
use Rattle.sim_event.specs.declared.reply.Reply.{Reply}
use Rattle.room.specs.Books.{SeatBook, with_call, GoesOn}

pub goes_on_itself : (s : SeatBook) → GoesOn s s
goes_on_itself s = record { same = refl; goes_on = ([], append-nil s.notes) }

pub goes_on_further : (r s t : SeatBook) → GoesOn r s → GoesOn s t → GoesOn r t
goes_on_further r s t p q =
    record {
      same = q.same ∙ p.same;
      goes_on = (
        p.goes_on.0 ++ q.goes_on.0,
        sym (append_assoc r.notes p.goes_on.0 q.goes_on.0)
            ∙ (ap (λ w. w ++ q.goes_on.0) p.goes_on.1 ∙ q.goes_on.1),
      );
    }

pub with_call_goes_on : (s : SeatBook) (event : Event) (reply : Reply) (t : SeatBook) →
    t ≡ with_call s event reply → GoesOn s t
with_call_goes_on s event reply t is =
    subst (λ (u : SeatBook). GoesOn s u) (sym is)
    (record { same = refl; goes_on = (record { event = event; reply = reply } ∷ [], refl) })

pub goes_on_same : (s t : SeatBook) → t ≡ s → GoesOn s t
goes_on_same s t is = subst (λ (u : SeatBook). GoesOn s u) (sym is) (goes_on_itself s)
