-- A history that is one call longer.
use Rattle.std.proofs.Common.{◌≡◌, ℕ, ◌+◌, Bool, true, false, not, ◌&&◌, cond, List, [], ◌∷◌, ◌++◌, fold, length, refl, sym, ap, ◌∙◌, subst}
use Rattle.sim_event.specs.declared.entry.Entry.{Entry}
use Rattle.sim_event.specs.declared.event.Event.{Event}
use Rattle.sim_event.specs.declared.reply.Reply.{Reply}
use Rattle.reference_machine.specs.Network.{Network}
use Rattle.reference_machine.specs.Machine.{nothing, step, is_refusal}
use Rattle.reference_machine.specs.Histories.{after_calls, AreAnswered, IsLegal, state_after}
use Rattle.cell_engine.specs.State.{State, network}
use Rattle.sim_core.specs.Counting.{Counts, CountsIf, raised}
use Rattle.sim_core.specs.Plans.{Plan, IsPrepared}
use Rattle.room.specs.Books.{RoomBook, AreCounted, IsKept, is_accepted_edit, version_of}

state_push : (s : Network) (es : List Entry) (e : Entry) →
    after_calls s (es ++ e ∷ []) ≡ (step (after_calls s es) e.event).next
state_push s [] e = refl
state_push s (x ∷ es) e = state_push (step s x.event).next es e

answered_push : (s : Network) (es : List Entry) (e : Entry) → AreAnswered s es →
    e.reply ≡ (step (after_calls s es) e.event).reply → AreAnswered s (es ++ e ∷ [])
answered_push s [] e answered is = (is, tt)
answered_push s (x ∷ es) e answered is = (answered.0, answered_push (step s x.event).next es e answered.1 is)

fold_push : {A B : Type 0} (f : A → B → A) (a : A) (xs : List B) (x : B) → fold f a (xs ++ x ∷ []) ≡ f (fold f a xs) x
fold_push f a [] x = refl
fold_push f a (y ∷ xs) x = fold_push f (f a y) xs x

-- the version after one call more
pub version_push : (es : List Entry) (e : Entry) →
    version_of (es ++ e ∷ []) ≡ version_of es + cond (is_accepted_edit e) 1 0
version_push es e = fold_push (λ a x. a + cond (is_accepted_edit x) 1 0) 0 es e

abbrev one_if : Bool → ℕ
one_if b = cond b 1 0

and_true : (b : Bool) → one_if (b && not false) ≡ one_if b
and_true true = refl
and_true false = refl

-- an edit that is not refused is accepted
pub accepted_one : (b : Bool) (reply : Reply) → is_refusal reply ≡ false →
    one_if (b && not (is_refusal reply)) ≡ one_if b
accepted_one b reply h = ap (λ r. one_if (b && not r)) h ∙ and_true b

-- one that is refused is not
pub refused_none : (b : Bool) → one_if (b && not true) ≡ 0
refused_none true = refl
refused_none false = refl

-- what is prepared is counted as its plan says
pub prepared_counts : (e : State) (event : Event) (x : Plan) (n m : ℕ) → IsPrepared e event x →
    m ≡ raised n (length x.refreshed) → Counts (network e) event x.reply n m
prepared_counts e event x n m prepared is =
    subst (λ b. CountsIf b (network e) event n m) (sym prepared.accepted)
    (record { cells = x.refreshed; refreshes = prepared.refreshes; is = is })

-- the count after one call more
counted_push : (s : Network) (n : ℕ) (es : List Entry) (e : Entry) (k m : ℕ) → AreCounted s n es k →
    Counts (after_calls s es) e.event e.reply k m → AreCounted s n (es ++ e ∷ []) m
counted_push s n [] e k m is more = (m, subst (λ j. Counts s e.event e.reply j m) is more, refl)
counted_push s n (x ∷ es) e k m done more =
    (done.0, done.1, counted_push (step s x.event).next done.0 es e k m done.2 more)

-- a room that was kept is kept after a call
pub kept_push : (room next : RoomBook) (number : ℕ) (event : Event) (reply : Reply) → IsKept room
    → next.history ≡ room.history ++ record { seat = number; event = event; reply = reply } ∷ []
    → reply ≡ (step (network room.engine) event).reply
    → network next.engine ≡ (step (network room.engine) event).next
    → Counts (network room.engine) event reply room.decided next.decided
    → IsKept next
kept_push room next number event reply kept is same goes counts =
    let x : Entry = record { seat = number; event = event; reply = reply } in
    record {
      legal = subst IsLegal (sym is) (answered_push nothing room.history x kept.legal (same
          ∙ ap (λ s. (step s event).reply) kept.state));
      state = goes ∙ ap (λ s. (step s event).next) kept.state ∙ sym (state_push nothing room.history x)
          ∙ ap state_after (sym is);
      counted = subst (λ h. AreCounted nothing 0 h next.decided) (sym is)
          (counted_push nothing 0 room.history x room.decided next.decided kept.counted
          (subst (λ s. Counts s event reply room.decided next.decided) kept.state counts));
    }
