-- Where a direction stands among all that could be. No public clause cites this module.
use Rattle.std.specs.Prelude.{ℕ, ◌+◌, ◌*◌, ◌<◌, Option, Some, None, IfSome}
use Rattle.net_prefix.specs.declared.addr.Addr.{Addr}

-- by sender, then by receiver
abbrev pub place : Option (Addr × Addr) → ℕ
place None = 0
place (Some d) = d.0.0 * 4294967296 + d.1.0 + 1

-- the receiver's address is one of 32 bits
abbrev pub Fits : Option (Addr × Addr) → Type 0
Fits past = IfSome past (λ d. d.1.0 < 4294967296)
