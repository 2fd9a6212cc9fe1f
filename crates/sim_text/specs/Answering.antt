-- What is answered to what was read of a line. No public clause cites this module.
use Rattle.std.specs.Prelude.{◌≡◌, ℕ, List, [], Option, Some, None, Result, Ok, Err}
use Rattle.net_conf.specs.declared.refusal.Refusal.{Refusal}
use Rattle.sim_event.specs.declared.event.Event.{Event}
use Rattle.sim_event.specs.declared.reply.Reply.{Reply}
use Rattle.reference_machine.specs.Network.{Network}
use Rattle.reference_machine.specs.Machine.{IsStep}
use Rattle.reply_text.specs.Replies.{reply_text, refusal_text}

-- nothing where nothing is asked; the machine's reply to an event; and a refusal, which changes nothing, where the line
-- was refused
abbrev pub IsAnswerTo : Result (Option Event) Refusal → Network → List ℕ → Network → Type 0
IsAnswerTo (Ok None) s text s' = (text ≡ []) × (s' ≡ s)
IsAnswerTo (Ok (Some event)) s text s' = (reply : Reply) × IsStep s event reply s' × (text ≡ reply_text reply)
IsAnswerTo (Err refusal) s text s' = (text ≡ refusal_text refusal) × (s' ≡ s)
