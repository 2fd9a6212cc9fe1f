-- No public contract cites this file. What stands on a stream where all was written and not sent on.
use Rattle.std.specs.Prelude.{List, ℕ, Option, Some, None}
use Rattle.std.specs.Io.KnownBytes.{Appends, Keeps}
use Rattle.std.proofs.Common.{◌∙◌}
use Rattle.watched.specs.Streams.{AppendsFront}
use Rattle.watched.specs.Writing.{appends_all}

appends_kept : (old mid new : Option (List ℕ)) (text : List ℕ) → Appends old mid text → Keeps mid new →
    Appends old new text
appends_kept None mid new text h k = tt
appends_kept (Some xs) None new text h k = absurd h
appends_kept (Some xs) (Some ys) None text h k = absurd k
appends_kept (Some xs) (Some ys) (Some zs) text h k = k ∙ h

-- a front of it did
pub front_kept : (old mid new : Option (List ℕ)) (text : List ℕ) → Appends old mid text → Keeps mid new →
    AppendsFront old new text
front_kept old mid new text h k = appends_all old new text (appends_kept old mid new text h k)
