-- No public contract cites this file. Texts of values that are joined by one byte.
use Rattle.std.specs.Prelude.{◌≡◌, ℕ, ◌<◌, List, map, length}
use Rattle.std.specs.List.{join_with_byte, AllByRecursion}

-- the text is that of one value or more, each in its range, joined by the byte
abbrev pub Joins : {X : Type 0} → ℕ → (X → Type 0) → (X → List ℕ) → List X → List ℕ → Type 0
Joins byte IsIn spelling xs text = (0 < length xs) × AllByRecursion IsIn xs
    × (text ≡ join_with_byte byte (map spelling xs))

-- some values are joined so
abbrev pub HasJoined : {X : Type 0} → ℕ → (X → Type 0) → (X → List ℕ) → List ℕ → Type 0
HasJoined {X} byte IsIn spelling text = (xs : List X) × Joins byte IsIn spelling xs text

-- the text is that of one value
abbrev pub HasOne : {X : Type 0} → (X → Type 0) → (X → List ℕ) → List ℕ → Type 0
HasOne {X} IsIn spelling text = (x : X) × IsIn x × (text ≡ spelling x)
