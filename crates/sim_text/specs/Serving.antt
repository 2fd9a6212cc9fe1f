-- What it means to serve a script (own): each line is answered in turn.
use Rattle.std.specs.Prelude.{◌≡◌, ℕ, true, ◌⊎◌, List, [], Result}
use Rattle.watched.specs.Streams.{Reading, Writing}
use Rattle.net_conf.specs.declared.refusal.Refusal.TheVariants.{Syntax, Memory}
use Rattle.sim_event.specs.declared.event.Event.{Event}
use Rattle.sim_event.specs.declared.reply.Reply.{Reply}
use Rattle.reference_machine.specs.Network.{Network}
use Rattle.reference_machine.specs.Machine.{IsStep}
use Rattle.command_text.specs.Lines.{IsSilent, IsFault, Means, feeds_route}
use Rattle.reply_text.specs.Replies.{reply_text, refusal_text}
use Rattle.line_serving.specs.declared.fault.ServeFault.{ServeFault}
use Rattle.line_serving.specs.Serving.{IsServing as IsServingBy}

-- what a line is answered, and the state after it: nothing for a blank line or a comment; a refusal of syntax for a
-- line that spells no event; the machine's reply to the event that the line means; or, where memory was wanted for the
-- route that the line feeds, a refusal that changes nothing
abbrev pub IsAnswer : Network → List ℕ → List ℕ → Network → Type 0
IsAnswer s line text s' =
    (IsSilent line × (text ≡ []) × (s' ≡ s))
    ⊎ ((IsFault line × (text ≡ refusal_text Syntax) × (s' ≡ s))
    ⊎ (((event : Event) × (reply : Reply) × Means line event × IsStep s event reply s' × (text ≡ reply_text reply))
    ⊎ ((event : Event) × Means line event × (feeds_route event ≡ true) × (text ≡ refusal_text Memory) × (s' ≡ s))))

-- serving the bytes: all lines were answered so, or a fault came at the line that it names, counted from 1
abbrev pub IsServing : List ℕ → Network → Writing → Result ℕ ServeFault → Network → Writing → Reading → Type 0
IsServing bytes s o result s' o' i' = IsServingBy IsAnswer bytes s o result s' o' i'
