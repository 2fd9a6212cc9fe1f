-- No public contract cites this file. How far a log was read.
use Rattle.std.specs.Prelude.{◌≡◌, ℕ, ◌+◌, ◌-◌, ◌*◌, ◌<◌, ◌≤◌, ◌==◌, List, ◌++◌, length, position, Option, Some, None, Result, Ok, Err}
use Rattle.watched.specs.Streams.{Reading}
use Rattle.reference_machine.specs.Network.{Network}
use Rattle.log_replay.specs.declared.place.Checker.{Checker}
use Rattle.log_replay.specs.declared.place.Next.{Next}
use Rattle.log_replay.specs.declared.place.Next.TheVariants.{Line, Part, TooLong, TooMany}
use Rattle.log_replay.specs.declared.verdict.Replayed.{Replayed}
use Rattle.log_replay.specs.declared.verdict.ReplayFault.{ReplayFault}
use Rattle.log_replay.specs.Replaying.{Place, Stands, IsReplay, IsTooLong, most_bytes, most_lines}
use Rattle.log_replay.specs.Reading.{IsAt}

-- what the bytes begin with, after k lines: a line that ends at the index; a part of a line; or a line that is too
-- long, or one too many
abbrev pub IsNext : List ℕ → ℕ → Next → Type 0
IsNext bytes k (Line end) = (position (λ b. b == 10) bytes ≡ Some end) × (end ≤ most_bytes) × (k < most_lines)
IsNext bytes k Part = (position (λ b. b == 10) bytes ≡ None) × (length bytes ≤ most_bytes)
    × (0 < length bytes → k < most_lines)
IsNext bytes k TooLong = IsTooLong bytes × (k < most_lines)
IsNext bytes k TooMany = (0 < length bytes) × (most_lines ≤ k)

-- so many lines brought the log to a place, at which the checker and the machine are; and these bytes are left
abbrev pub Comes : List ℕ → List ℕ → ℕ → Checker → Network → Type 0
Comes bytes left lines c s = (p : Place) × Stands bytes left lines p × IsAt c s p

-- a line was taken, or the replay ends
abbrev pub IsTakenLine : List ℕ → List ℕ → Result (Option Replayed) ReplayFault → ℕ → Checker →
    Network → Reading → Type 0
IsTakenLine bytes left (Ok None) lines c s i = Comes bytes left lines c s
IsTakenLine bytes left (Ok (Some verdict)) lines c s i = IsReplay bytes (Ok verdict) i
IsTakenLine bytes left (Err fault) lines c s i = IsReplay bytes (Err fault) i

-- the replay goes on with what is left of the input, or ends
abbrev pub IsAdvance : List ℕ → Result (Option Replayed) ReplayFault → List ℕ → ℕ → Checker → Network → Reading → Type 0
IsAdvance bytes (Ok None) pending lines c s i = (rest : List ℕ) × (i.remaining ≡ Some rest)
    × Comes bytes (pending ++ rest) lines c s
IsAdvance bytes (Ok (Some verdict)) pending lines c s i = IsReplay bytes (Ok verdict) i
IsAdvance bytes (Err fault) pending lines c s i = IsReplay bytes (Err fault) i

-- at most how many more lines may be taken and reads made, as a number that falls
abbrev pub work_left : List ℕ → ℕ → ℕ
work_left pending lines = (most_lines - lines) * 1048578 + (1048577 - length pending)
