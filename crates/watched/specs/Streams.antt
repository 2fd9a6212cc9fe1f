-- Streams of bytes as contracts see them, and what a read or a write does to them.
use Rattle.std.specs.Prelude.{◌≡◌, ℕ, Bool, true, not, ◌==◌, ◌||◌, List, length, take, Option, Result, MatchResult}
use Rattle.std.specs.Io.KnownBytes.{Appends}

-- the bytes that are still to come, where the source tells them; whether a read has failed
pub record Reading : Type 0 where
  pub remaining : Option (List ℕ)
  pub failed : Bool

-- the bytes that a sink has taken, where it tells them; whether a write has failed
pub record Receiving : Type 0 where
  pub written : Option (List ℕ)
  pub failed : Bool

-- the bytes that were written, where the sink tells them; whether a write has failed; whether bytes may be held back:
-- some were written since all was last sent on
pub record Writing : Type 0 where
  pub written : Option (List ℕ)
  pub failed : Bool
  pub held : Bool

-- a front of the bytes was written, and nothing else
abbrev pub AppendsFront : Option (List ℕ) → Option (List ℕ) → List ℕ → Type 0
AppendsFront old new bytes = (n : ℕ) × Appends old new (take n bytes)

-- whether bytes may be held back once these were written too
abbrev pub held_after : Writing → List ℕ → Bool
held_after old bytes = old.held || not (length bytes == 0)

-- writing the bytes: at Ok all of them were written, and the writer did not fail; else it failed, after a front of them
abbrev pub Writes : {E : Type 0} → Writing → List ℕ → Result Unit E → Writing → Type 0
Writes old bytes result new = MatchResult result
    (λ _. Appends old.written new.written bytes × (new.failed ≡ old.failed) × (new.held ≡ held_after old bytes))
    (λ _. AppendsFront old.written new.written bytes × (new.failed ≡ true))
