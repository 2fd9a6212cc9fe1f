-- Directions in order, by numbers.
use Rattle.std.proofs.Common.{◌≡◌, ℕ, ◌+◌, ◌*◌, ◌<◌, Option, Some, None, refl, sym, arith}
use Rattle.std.specs.declared.cmp.Ordering.{Ordering}
use Rattle.std.specs.declared.cmp.Ordering.TheVariants.{Less, Equal, Greater}
use Rattle.std.specs.Ordering.{nat_cmp, ordering_then}
use Rattle.std.proofs.lemmas.Cmp.{ranked}
use Rattle.net_prefix.specs.declared.addr.Addr.{Addr}
use Rattle.session_queue.specs.Waiting.{IsPast}
use Rattle.convergence.specs.Places.{place, Fits}

-- by the first number, and where that is equal by the second
by_first : (a b c d : ℕ) (o : Ordering) → b < 4294967296 → d < 4294967296 → o ≡ nat_cmp a c →
    ordering_then o (nat_cmp b d) ≡ Less → a * 4294967296 + b < c * 4294967296 + d
by_first a b c d Less small fits is h = omega (arith, ranked a c Less is)
by_first a b c d Equal small fits is h = omega (arith, ranked a c Equal is, ranked b d Less (sym h))
by_first a b c d Greater small fits is h = absurd (cc)

pub place_grows : (past : Option (Addr × Addr)) (from to : Addr) → Fits past → to.0 < 4294967296 →
    IsPast past (from, to) → place past < place (Some (from, to))
place_grows None from to small fits h = omega arith
place_grows (Some d) from to small fits h =
    let less = by_first d.0.0 d.1.0 from.0 to.0 (nat_cmp d.0.0 from.0) small fits refl h in omega (arith, less)
