-- What was told, and then sent on.
use Rattle.std.proofs.Common.{◌≡◌, true, List, ℕ, Option, Some, None, inl, inr, ◌∙◌}
use Rattle.std.specs.Io.KnownBytes.{Appends, Keeps}
use Rattle.watched.specs.Streams.{Writing, AppendsFront}
use Rattle.reply_text.specs.Ending.{IsTold}

still_appended : (old mid new : Option (List ℕ)) (text : List ℕ) → Appends old mid text → Keeps mid new →
    Appends old new text
still_appended None mid new text h k = tt
still_appended (Some xs) None new text h k = absurd h
still_appended (Some xs) (Some ys) None text h k = absurd k
still_appended (Some xs) (Some ys) (Some zs) text h k = k ∙ h

pub told_all : (old mid new : Writing) (text : List ℕ) → Appends old.written mid.written text →
    Keeps mid.written new.written → IsTold old text new
told_all old mid new text all kept = inl (still_appended old.written mid.written new.written text all kept)

pub told_front : (old new : Writing) (text : List ℕ) → AppendsFront old.written new.written text → new.failed ≡ true →
    IsTold old text new
told_front old new text front failed = inr (failed, front)
