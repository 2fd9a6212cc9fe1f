-- How many lines a script may have, and how long each may be (own).
use Rattle.std.specs.Prelude.{◌≤◌, ℕ, List, length, All}

-- the most bytes that a line may have, its end not counted, and the most lines
abbrev pub most_bytes : ℕ
most_bytes = 65536

abbrev pub most_lines : ℕ
most_lines = 1000000

-- no more lines than a script may have, and none longer than a line may be
abbrev pub AreFit : List (List ℕ) → Type 0
AreFit ls = (length ls ≤ most_lines) × All (λ line. length line ≤ most_bytes) ls
