-- The prefixes that contain an address: one of each length.
use Rattle.std.proofs.Common.{◌≡◌, ℕ, ◌-◌, ◌*◌, ◌/◌, ◌%◌, ◌^◌, ◌<◌, ◌≤◌, sym, ap, ◌∙◌, arith}
use Rattle.std.proofs.lemmas.Nat.{pow_pos}
use Rattle.std.proofs.Math.Nat.{mul-mod_left, mul-div_cancel, mod-eq-sub-div-mul, div-mul-le_self}
use Rattle.net_prefix.specs.declared.addr.Addr.{Addr}
use Rattle.net_prefix.specs.Prefix.{Prefix}
use Rattle.prefix_table.specs.Tables.{Matches}
use Rattle.prefix_table.specs.Places.{prefix_around}

some_size : (k : ℕ) → 0 < 2 ^ k
some_size = pow_pos

pub prefix_around_matches : (a : Addr) (len most : ℕ) → len ≤ 32 → len ≤ most → Matches a most (prefix_around a len)
prefix_around_matches a len most le short =
    let size = 2 ^ (32 - len) in
    ((le, mul-mod_left (a.0 / size) size), short, sym (mul-div_cancel (a.0 / size) (some_size (32 - len))))

-- a number that a size divides is as often that size as the size goes into it
divided : (x size : ℕ) → x % size ≡ 0 → x ≡ (x / size) * size
divided x size even = omega (arith, mod-eq-sub-div-mul x size, div-mul-le_self x size)

pub match_is_prefix_around : (a : Addr) (most : ℕ) (p : Prefix) → Matches a most p → p ≡ prefix_around a p.len
match_is_prefix_around a most p m =
    let size = 2 ^ (32 - p.len) in
    let low : p.addr.0 ≡ (a.0 / size) * size = divided p.addr.0 size m.0.1 ∙ ap (λ n. n * size) (sym m.2) in
    ap (λ n. record { addr = record { 0 = n }; len = p.len }) low
