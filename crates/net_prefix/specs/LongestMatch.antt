-- Longest match: the most specific of the prefixes that match (RFC 4271, 9.1.4).
use Rattle.std.specs.Prelude.{◌≤◌}
use Rattle.net_prefix.specs.Prefix.{Prefix}

-- of the prefixes with a property, one than which none is longer
pub record IsLongest (P : Prefix → Type 0) (p : Prefix) : Type 0 where
  pub has : P p
  pub longest : (q : Prefix) → P q → q.len ≤ p.len

-- no prefix has the property
abbrev pub HasNone : (Prefix → Type 0) → Type 0
HasNone P = (q : Prefix) → P q → ⊥
