-- The calls of a version are those of the latest one that it has a form for.
use Rattle.std.specs.Prelude.{◌≡◌, ℕ, true, false, List, Option, Some, None, Result, Ok, Err}
use Rattle.std.specs.Result.{IsErr}
use Rattle.std.proofs.Common.{refl, sym, ap, ◌∙◌, subst}
use Rattle.std.proofs.lemmas.Bool.{true≢false}
use Rattle.sim_event.specs.declared.event.Event.{Event}
use Rattle.command_text.specs.Lines.{Means}
use Rattle.command_text.specs.Spelling.{OneMeaning}
use Rattle.log_text.specs.declared.version.Version.{Version}
use Rattle.log_text.specs.declared.version.Version.TheVariants.{Two}
use Rattle.log_text.specs.Versions.{has_form}
use Rattle.log_text.specs.Logs.{command_text}
use Rattle.log_replay.specs.Replaying.{IsCallLine}
use Rattle.log_replay.specs.Reading.{Calls, ReadsCall}
use Rattle.log_replay.proofs.Commands.{command_means}
use Rattle.log_replay.proofs.Calls.{call_cut}

-- a line of a call is that of one event
pub same_event : OneMeaning → (v w : Version) (line : List ℕ) (e f : Event) → IsCallLine v line e →
    IsCallLine w line f → e ≡ f
same_event law v w line e f a b =
    let same : command_text e ≡ command_text f = call_cut w line (command_text e) f a.0 a.2 b in
    law (command_text e) e f (command_means e a.1.1 a.1.2)
    (subst (λ t. Means t f) (sym same) (command_means f b.1.1 b.1.2))

latest : (v : Version) (line : List ℕ) (event : Event) → IsCallLine v line event → IsCallLine Two line event
latest v line event call = (call.0, (call.1.0, call.1.1, call.1.2, refl), call.2)

pub formed : (v : Version) (line : List ℕ) (event : Event) → Calls Two line (Some event) → has_form v event ≡ true →
    Calls v line (Some event)
formed v line event call form = (call.0, (call.1.0, call.1.1, call.1.2, form), call.2)

pub formless : OneMeaning → (v : Version) (line : List ℕ) (event : Event) → Calls Two line (Some event) →
    has_form v event ≡ false → Calls v line None
formless law v line event call none other said =
    let same : event ≡ other = same_event law Two v line event other call said in
    true≢false (sym said.1.3 ∙ ap (has_form v) (sym same) ∙ none)

pub no_call : (v : Version) (line : List ℕ) → Calls Two line None → Calls v line None
no_call v line none event call = none event (latest v line event call)

-- memory was wanted
pub call_unread : {E : Type 0} (r : Result (Option Event) E) (v : Version) (line : List ℕ) → IsErr r → (event : Event)
    × IsCallLine Two line event → ReadsCall v line r
call_unread (Ok found) v line err call = absurd (true≢false (sym err))
call_unread (Err e) v line err call = call
