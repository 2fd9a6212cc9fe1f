-- How many times an AS is put in front of a path: 1 to 16 (own).
use Rattle.std.specs.Prelude.{ℕ, ◌≤◌}

abbrev pub IsRepeat : ℕ → Type 0
IsRepeat n = (1 ≤ n) × (n ≤ 16)
