-- The answer to what was read of a line is one to the line.
use Rattle.std.proofs.Common.{ℕ, inl, inr, List, Option, Some, None, Result, Ok, Err}
use Rattle.net_conf.specs.declared.refusal.Refusal.{Refusal}
use Rattle.net_conf.specs.declared.refusal.Refusal.TheVariants.{Syntax, Memory}
use Rattle.sim_event.specs.declared.event.Event.{Event}
use Rattle.reference_machine.specs.Network.{Network}
use Rattle.command_text.specs.Lines.{IsReading}
use Rattle.sim_text.specs.Serving.{IsAnswer}
use Rattle.sim_text.specs.Answering.{IsAnswerTo}

refused : (s : Network) (line text : List ℕ) (s' : Network) (r : Refusal) → IsReading line (Err r) →
    IsAnswerTo (Err r) s text s' → IsAnswer s line text s'
refused s line text s' Syntax reads is = inr (inl (reads, is.0, is.1))
refused s line text s' Memory reads is = inr (inr (inr (reads.0, reads.1, reads.2, is.0, is.1)))
refused s line text s' _ reads is = absurd reads

pub answered : (s : Network) (line text : List ℕ) (s' : Network) (r : Result (Option Event) Refusal) →
    IsReading line r → IsAnswerTo r s text s' → IsAnswer s line text s'
answered s line text s' (Ok None) reads is = inl (reads, is.0, is.1)
answered s line text s' (Ok (Some event)) reads is = inr (inr (inl (event, is.0, reads, is.1, is.2)))
answered s line text s' (Err r) reads is = refused s line text s' r reads is
