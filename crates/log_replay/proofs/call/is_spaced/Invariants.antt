use Rattle.std.proofs.Common.{length}
use Rattle.log_replay.specs.Reading.{IsSpaced}
use Rattle.log_replay.proofs.call.is_spaced.Given as goal

-- what is left is well spaced just where the text is
abbrev pub invariant-loop-word : goal.invariant-loop-word
invariant-loop-word l = record { whole : IsSpaced l.rest → IsSpaced l.text; left : IsSpaced l.text → IsSpaced l.rest }

abbrev pub decreases-loop-word : goal.decreases-loop-word
decreases-loop-word l = length l.rest
