-- What stands at the head of the bytes that are left. No public clause cites this module.
use Rattle.std.specs.Prelude.{◌≡◌, ℕ, ◌<◌, ◌≤◌, ◌==◌, ◌⊎◌, List, ◌∷◌, ◌++◌, length, take, position, Some, None}
use Rattle.std.specs.Str.Lines.{lines, strip_carriage_return}
use Rattle.watched.specs.Limits.{most_bytes, most_lines}
use Rattle.line_serving.specs.declared.line.Next.{Next}
use Rattle.line_serving.specs.declared.line.Next.TheVariants.{Line, Part, Unfit}

-- whatever follows: after k lines, what the bytes begin is one line too many, or a line that is too long
abbrev pub IsUnfit : List ℕ → ℕ → Type 0
IsUnfit bytes k = (rest : List ℕ) → (line : List ℕ) × (more : List (List ℕ)) × (lines (bytes ++ rest) ≡ line ∷ more)
    × ((most_lines ≤ k) ⊎ (most_bytes < length line))

-- what follows k lines: a line that ends at the index, and may be answered; a part of a line; or a line that may not be
-- answered
abbrev pub IsNext : List ℕ → ℕ → Next → Type 0
IsNext bytes k (Line end) = (position (λ b. b == 10) bytes ≡ Some end)
    × (length (strip_carriage_return (take end bytes)) ≤ most_bytes) × (k < most_lines)
IsNext bytes k Part = (position (λ b. b == 10) bytes ≡ None) × (length bytes < 65538)
    × (0 < length bytes → k < most_lines)
IsNext bytes k Unfit = IsUnfit bytes k
