-- No public contract cites this file. Which texts spell numbers of 32 bits from a least one on, AS numbers from 1 and
-- communities from 0.
use Rattle.std.specs.Prelude.{ℕ, ◌<◌, ◌≤◌, ◌^◌, List}
use Rattle.std.specs.Fmt.{decimal}
use Rattle.path_attr.specs.Path.{IsAscending}
use Rattle.command_text.specs.Joined.{Joins, HasJoined}

abbrev pub IsFrom : ℕ → ℕ → Type 0
IsFrom least n = (least ≤ n) × (n < 2 ^ 32)

-- such numbers joined by commas
abbrev pub AreFrom : ℕ → List ℕ → List ℕ → Type 0
AreFrom least ns text = Joins 44 (IsFrom least) decimal ns text

abbrev pub HasFrom : ℕ → List ℕ → Type 0
HasFrom least text = HasJoined 44 (IsFrom least) decimal text

-- such numbers, each above the one before it
abbrev pub HasAscending : ℕ → List ℕ → Type 0
HasAscending least text = (ns : List ℕ) × AreFrom least ns text × IsAscending ns
