-- A multiple of the size has no host bit.
use Rattle.std.proofs.Common.{◌≡◌, ℕ, ◌≤◌, ◌-◌, ◌*◌, ◌/◌, ◌%◌, ◌^◌, ap, ◌∙◌, arith, lit<}
use Rattle.std.proofs.Math.Pow.{shl_exact}
use Rattle.std.proofs.Math.Nat.{mul-mod_left}
use Rattle.prefix_table.proofs.cut.cut.Goals as goal

exact : (x k : ℕ) → k ≤ 32 → ((x / ((1 * 2 ^ k) % 18446744073709551616)) * ((1 * 2 ^ k) % 18446744073709551616)) % 2 ^ k
    ≡ 0
exact x k le =
    let e : (1 * 2 ^ k) % 2 ^ 64 ≡ 1 * 2 ^ k = shl_exact {a = 1} 1 k 64 (lit< tt) (omega arith) in
    let f : (1 * 2 ^ k) % 2 ^ 64 ≡ 2 ^ k = omega (arith, e) in
    ap (λ s. ((x / s) * s) % 2 ^ k) f ∙ mul-mod_left (x / 2 ^ k) (2 ^ k)

pub unreachable-requires : goal.unreachable-requires
unreachable-requires c = c.in-None.ensures (c.requires, exact c.from.result (32 - c.args.len) (omega arith))
