-- The calls of a script's lines, one line after another.
use Rattle.std.proofs.Common.{◌≡◌, ⊎_elim, inl, inr, ℕ, ◌+◌, Bool, true, false, cond, List, [], ◌∷◌, ◌++◌, Option, Some, None, Err, refl, sym, ap, ◌∙◌, subst, append_assoc, append-nil}
use Rattle.std.specs.Prelude.{IsTrue, ◌↔◌, option_map, option_to_list}
use Rattle.net_conf.specs.declared.refusal.Refusal.{Refusal}
use Rattle.net_conf.specs.declared.refusal.Refusal.TheVariants.{Syntax, Memory}
use Rattle.sim_event.specs.declared.entry.Call.{Call}
use Rattle.sim_event.specs.declared.event.Event.{Event}
use Rattle.sim_event.specs.declared.reply.Reply.{Reply}
use Rattle.sim_event.specs.declared.reply.Reply.TheVariants.{Refused}
use Rattle.command_text.specs.Lines.{IsSilent, Means, IsReading}
use Rattle.room.specs.Books.{SeatBook, is_memory, noted, with_call}
use Rattle.team_run.specs.declared.told.ToldLine.{ToldLine}
use Rattle.team_run.specs.TeamRun.{IsUncalled}
use Rattle.team_run.specs.Playing.{AreCalledFrom, IsCalled, IsLineCalled, told_at}

-- ---- one line

-- a refusal is want of memory
pub memory_test : (r : Refusal) (b : Bool) → IsTrue b ↔ (r ≡ Memory) → b ≡ is_memory (Refused r)
memory_test Memory true h = refl
memory_test Memory false h = h.1 refl
memory_test _ true h = let e = h.0 refl in absurd (cc)
memory_test _ false h = refl

-- the event was called; or there was no memory for it, which is told
pub called_or_not : (seat new : SeatBook) (line : List ℕ) (event : Event) (reply : Reply) (told : Option Refusal) →
    Means line event → told ≡ cond (is_memory reply) (Some Memory) None → new ≡ noted seat event reply →
    IsCalled seat line told new
called_or_not seat new line event reply told means tells is = by (is_memory reply) refl
  where
    by : (b : Bool) → is_memory reply ≡ b → IsCalled seat line told new
    by true memory = subst (λ t. IsCalled seat line t new) (sym (tells ∙ ap (λ b. cond b (Some Memory) None) memory))
        ((event, means), is ∙ ap (λ b. cond b seat (with_call seat event reply)) memory)
    by false memory = subst (λ t. IsCalled seat line t new) (sym (tells ∙ ap (λ b. cond b (Some Memory) None) memory))
        (inr (event, reply, means, memory, is ∙ ap (λ b. cond b seat (with_call seat event reply)) memory))

-- the line was refused before
pub called_refused : (seat new : SeatBook) (line : List ℕ) (r : Refusal) → IsReading line (Err r) → new ≡ seat →
    IsCalled seat line (Some r) new
called_refused seat new line Syntax h is = (h, is)
called_refused seat new line Memory h is = ((h.0, h.1), is)
called_refused seat new line _ h is = absurd h

-- ---- one line more

-- no line, no call, and nothing is told
pub none_called : (file number : ℕ) (seat : SeatBook) (told : List ToldLine) →
    AreCalledFrom file number [] seat seat told told
none_called file number seat told = record {
  same = refl;
  calls = [];
  noted = sym (append-nil seat.notes);
  uncalled = [];
  behind = sym (append-nil told);
  called = (refl, refl);
}

-- a line of which nothing comes
skipped : (file number : ℕ) (line : List ℕ) (more : List (List ℕ)) (old mid new : SeatBook) (before told : List ToldLine)
    → IsSilent line → mid ≡ old → AreCalledFrom file (number + 1) more mid new before told →
    AreCalledFrom file number (line ∷ more) old new before told
skipped file number line more old mid new before told silent is rest = record {
  same = rest.same ∙ ap (λ (s : SeatBook). s.number) is;
  calls = rest.calls;
  noted = rest.noted ∙ ap (λ (s : SeatBook). s.notes ++ rest.calls) is;
  uncalled = rest.uncalled;
  behind = rest.behind;
  called = inl (silent, rest.called);
}

-- a line that made a call
made : (file number : ℕ) (line : List ℕ) (more : List (List ℕ)) (old mid new : SeatBook) (before told : List ToldLine)
    (event : Event) (reply : Reply)
    → Means line event → mid ≡ with_call old event reply → AreCalledFrom file (number + 1) more mid new before told →
    AreCalledFrom file number (line ∷ more) old new before told
made file number line more old mid new before told event reply means is rest =
    let call : Call = record { event = event; reply = reply } in record {
      same = rest.same ∙ ap (λ (s : SeatBook). s.number) is;
      calls = call ∷ rest.calls;
      noted = rest.noted ∙ ap (λ (s : SeatBook). s.notes ++ rest.calls) is
          ∙ append_assoc old.notes (call ∷ []) rest.calls;
      uncalled = rest.uncalled;
      behind = rest.behind;
      called = inr (inl (call, rest.calls, refl, means, rest.called));
    }

-- a line that made none, which is told
uncalled : (file number : ℕ) (line : List ℕ) (more : List (List ℕ)) (old mid new : SeatBook)
    (before told : List ToldLine) (r : Refusal)
    → IsUncalled line r → mid ≡ old
    → AreCalledFrom file (number + 1) more mid new (before ++ told_at file number r ∷ []) told →
    AreCalledFrom file number (line ∷ more) old new before told
uncalled file number line more old mid new before told r why is rest =
    let one = told_at file number r in record {
      same = rest.same ∙ ap (λ (s : SeatBook). s.number) is;
      calls = rest.calls;
      noted = rest.noted ∙ ap (λ (s : SeatBook). s.notes ++ rest.calls) is;
      uncalled = one ∷ rest.uncalled;
      behind = rest.behind ∙ append_assoc before (one ∷ []) rest.uncalled;
      called = inr (inr (r, rest.uncalled, refl, why, rest.called));
    }

called_by : (file number : ℕ) (line : List ℕ) (more : List (List ℕ)) (refusal : Option Refusal)
    (old mid new : SeatBook) (before told : List ToldLine)
    → IsCalled old line refusal mid
    → AreCalledFrom file (number + 1) more mid new
    (before ++ option_to_list (option_map (told_at file number) refusal)) told →
    AreCalledFrom file number (line ∷ more) old new before told
called_by file number line more None old mid new before told first rest =
    let left = subst (λ (b : List ToldLine). AreCalledFrom file (number + 1) more mid new b told) (append-nil before) rest in
    ⊎_elim
    (λ silent. skipped file number line more old mid new before told silent.0 silent.1 left)
    (λ one. made file number line more old mid new before told one.0 one.1 one.2 one.4 left)
    first
called_by file number line more (Some r) old mid new before told first rest =
    uncalled file number line more old mid new before told r first.0 first.1 rest

pub called_more : (file number : ℕ) (line : List ℕ) (more : List (List ℕ)) (one : Option ToldLine)
    (old mid new : SeatBook) (before between told : List ToldLine)
    → IsLineCalled file number old line one mid → between ≡ before ++ option_to_list one →
    AreCalledFrom file (number + 1) more mid new between told →
    AreCalledFrom file number (line ∷ more) old new before told
called_more file number line more one old mid new before between told first is rest =
    called_by file number line more first.0 old mid new before told first.1
    (subst (λ (b : List ToldLine). AreCalledFrom file (number + 1) more mid new b told)
    (is ∙ ap (λ (o : Option ToldLine). before ++ option_to_list o) first.2) rest)
