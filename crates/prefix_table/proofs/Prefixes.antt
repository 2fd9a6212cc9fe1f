-- Prefixes that cover one another, and the halves of a prefix.
use Rattle.std.proofs.Common.{◌≡◌, ◌≢◌, ℕ, ◌+◌, ◌-◌, ◌*◌, ◌/◌, ◌%◌, ◌^◌, ◌<◌, ◌≤◌, ◌==◌, Bool, true, false, Some, refl, sym, ap, subst, ◌∙◌, inl, inr, arith}
use Rattle.std.proofs.lemmas.Nat.{pow_pos, pow-add, le-div}
use Rattle.std.proofs.Math.Nat.{div-div-eq-div-mul, div-mul-le_self, mod-eq-sub-div-mul, mul-div_cancel}
use Rattle.std.proofs.lemmas.Bool.{cases_lt, eqb-true, eqb-false}
use Rattle.std.specs.declared.cmp.Ordering.TheVariants.{Less, Equal, Greater}
use Rattle.std.specs.Ordering.{is_lt, nat_cmp, ordering_then}
use Rattle.std.specs.Cmp.{nat_cmp_is, ranked}
use Rattle.net_prefix.specs.declared.addr.Addr.{Addr}
use Rattle.net_prefix.specs.Prefix.{Prefix, MakePrefix, Contains, Covers, prefix_cmp}
use Rattle.prefix_table.specs.Tables.{is_after}
use Rattle.prefix_table.specs.Places.{prefix_around}
use Rattle.prefix_table.specs.Trie.{bit_at, IsUnder, whole}

div_more : (a j d : ℕ) → a / 2 ^ (j + d) ≡ a / 2 ^ j / 2 ^ d
div_more a j d = ap (λ n. a / n) (pow-add 2 j d) ∙ sym (div-div-eq-div-mul a (2 ^ j) (2 ^ d))

same_above : (a b j i : ℕ) → j ≤ i → a / 2 ^ j ≡ b / 2 ^ j → a / 2 ^ i ≡ b / 2 ^ i
same_above a b j i le e =
    let k : j + (i - j) ≡ i = omega arith in
    subst (λ n. a / 2 ^ n ≡ b / 2 ^ n) k (div_more a j (i - j) ∙ ap (λ n. n / 2 ^ (i - j)) e
    ∙ sym (div_more b j (i - j)))

pub covers_itself : (p : Prefix) → Covers p p
covers_itself p = (omega arith, refl)

pub covers_trans : (p q r : Prefix) → Covers p q → Covers q r → Covers p r
covers_trans p q r h k =
    (omega (arith, h.0, k.0), same_above r.addr.0 q.addr.0 (32 - q.len) (32 - p.len) (omega (arith, h.0)) k.1 ∙ h.1)

-- of two that cover one, the shorter covers the longer
pub comparable : (p q r : Prefix) → Covers p r → Covers q r → p.len ≤ q.len → Covers p q
comparable p q r h k le = (le, same_above q.addr.0 r.addr.0 (32 - q.len) (32 - p.len) (omega arith) (sym k.1) ∙ h.1)

pub same_bit : (q r : Prefix) (k : ℕ) → Covers q r → k < q.len → bit_at r.addr k ≡ bit_at q.addr k
same_bit q r k h lt = ap (λ n. n % 2 == 1) (same_above r.addr.0 q.addr.0 (32 - q.len) (31 - k) (omega arith) h.1)

pub under_further : (p : Prefix) (upper : Bool) (q r : Prefix) → IsUnder p upper q → Covers q r → IsUnder p upper r
under_further p upper q r u h = record {
  longer = omega (arith, u.longer, h.0);
  covers = covers_trans p q r u.covers h;
  half = same_bit q r p.len h u.longer ∙ u.half;
}

-- what lies under p and is covered by r, which is longer than p and covers some of that half, makes r lie there
pub under_back : (p : Prefix) (upper : Bool) (q r : Prefix) → IsUnder p upper r → Covers q r →
    p.len < q.len → IsUnder p upper q
under_back p upper q r u h lt = record {
  longer = lt;
  covers = comparable p q r u.covers h (omega arith);
  half = sym (same_bit q r p.len h lt) ∙ u.half;
}

divided : (x size : ℕ) → x % size ≡ 0 → x ≡ (x / size) * size
divided x size even = omega (arith, mod-eq-sub-div-mul x size, div-mul-le_self x size)

pub one_prefix : (p q : Prefix) → MakePrefix p.addr p.len → MakePrefix q.addr q.len → Covers p q → q.len ≤ p.len → p ≡ q
one_prefix p q hp hq h le =
    let len : p.len ≡ q.len = omega (arith, h.0) in
    let even : q.addr.0 % 2 ^ (32 - p.len) ≡ 0 = ap (λ n. q.addr.0 % 2 ^ (32 - n)) len ∙ hq.1 in
    let low : p.addr.0 ≡ q.addr.0 = divided p.addr.0 (2 ^ (32 - p.len)) hp.1 ∙ ap (λ n. n * 2 ^ (32 - p.len)) (sym h.1)
    ∙ sym (divided q.addr.0 (2 ^ (32 - p.len)) even) in
    λ i. record { addr = record { 0 = low i }; len = len i }

pub whole_covers : (q : Prefix) → q.addr.0 < 4294967296 → Covers whole q
whole_covers q lt = (omega arith, omega arith)

less_from_div : (a b s : ℕ) → 0 < s → a / s < b / s → a < b
less_from_div a b s pos lt =
    elim (cases_lt a b) as (λ _. a < b) [
      | inl less ↦ less
      | inr le ↦ let more : b / s ≤ a / s = le-div (b / s) a s pos (omega (arith, div-mul-le_self b s)) in
          absurd (omega arith)
    ]

is_less : (a b : ℕ) → a < b → nat_cmp a b ≡ Less
is_less a b h = sym (nat_cmp_is a b Less h)

is_greater : (a b : ℕ) → b < a → nat_cmp a b ≡ Greater
is_greater a b h = sym (nat_cmp_is a b Greater h)

-- not less by address, nor by length
not_less : (p q : Prefix) → q.addr.0 ≤ p.addr.0 → q.len ≤ p.len → is_lt (prefix_cmp p q) ≡ false
not_less p q addr len =
    elim (nat_cmp p.addr.0 q.addr.0) as (λ o. nat_cmp p.addr.0 q.addr.0 ≡ o →
    is_lt (ordering_then o (nat_cmp p.len q.len)) ≡ false) [
      | Less ↦ λ e. let less : p.addr.0 < q.addr.0 = ranked p.addr.0 q.addr.0 Less (sym e) in absurd (omega arith)
      | Equal ↦ λ e. elim (nat_cmp p.len q.len) as (λ o. nat_cmp p.len q.len ≡ o → is_lt o ≡ false) [
        | Less ↦ λ l. let less : p.len < q.len = ranked p.len q.len Less (sym l) in absurd (omega arith)
        | Equal ↦ λ l. refl
        | Greater ↦ λ l. refl
      ] refl
      | Greater ↦ λ e. refl
    ] refl

lower : (p q : Prefix) → p.addr.0 < q.addr.0 → prefix_cmp p q ≡ Less
lower p q h = ap (λ o. ordering_then o (nat_cmp p.len q.len)) (is_less p.addr.0 q.addr.0 h)

higher : (p q : Prefix) → q.addr.0 < p.addr.0 → prefix_cmp p q ≡ Greater
higher p q h = ap (λ o. ordering_then o (nat_cmp p.len q.len)) (is_greater p.addr.0 q.addr.0 h)

-- nothing that p covers comes before p
pub covered_not_before : (p q : Prefix) → MakePrefix p.addr p.len → Covers p q → is_lt (prefix_cmp q p) ≡ false
covered_not_before p q block h =
    let low : p.addr.0 ≡ (q.addr.0 / 2 ^ (32 - p.len)) * 2 ^ (32 - p.len) = divided p.addr.0 (2 ^ (32 - p.len)) block.1
    ∙ ap (λ n. n * 2 ^ (32 - p.len)) (sym h.1) in
    not_less q p (omega (arith, low, div-mul-le_self q.addr.0 (2 ^ (32 - p.len)))) h.0

-- nothing in the upper half comes before something in the lower half
pub upper_not_before : (p q r : Prefix) → p.len < 32 → IsUnder p false q → IsUnder p true r →
    is_lt (prefix_cmp r q) ≡ false
upper_not_before p q r short hq hr =
    let k : 32 - p.len ≡ (31 - p.len) + 1 = omega arith in
    let size : ℕ = 2 ^ (31 - p.len) in
    let same : q.addr.0 / size / 2 ≡ r.addr.0 / size / 2 =
    sym (div_more q.addr.0 (31 - p.len) 1) ∙ ap (λ n. q.addr.0 / 2 ^ n) (sym k) ∙ hq.covers.1 ∙ sym hr.covers.1
    ∙ ap (λ n. r.addr.0 / 2 ^ n) k ∙ div_more r.addr.0 (31 - p.len) 1 in
    let low : q.addr.0 / size % 2 ≢ 1 = eqb-false (q.addr.0 / size % 2) 1 hq.half in
    let high : r.addr.0 / size % 2 ≡ 1 = eqb-true (r.addr.0 / size % 2) 1 hr.half in
    let less : q.addr.0 / size < r.addr.0 / size = omega arith in
    ap is_lt (higher r q (less_from_div q.addr.0 r.addr.0 size (pow_pos (31 - p.len)) less))

-- nothing that p covers comes after a prefix that lies beyond p
pub beyond : (p after q : Prefix) → p.addr.0 / 2 ^ (32 - p.len) < after.addr.0 / 2 ^ (32 - p.len) → Covers p q →
    is_after (Some after) q ≡ false
beyond p after q lt h =
    let less : q.addr.0 / 2 ^ (32 - p.len) < after.addr.0 / 2 ^ (32 - p.len) = omega (arith, h.1) in
    ap is_lt (higher after q (less_from_div q.addr.0 after.addr.0 (2 ^ (32 - p.len)) (pow_pos (32 - p.len)) less))

pub prefix_around_covers : (a : Addr) (k : ℕ) (q : Prefix) → k ≤ q.len → q.addr.0 / 2 ^ (32 - k) ≡ a.0 / 2 ^ (32 - k) →
    Covers (prefix_around a k) q
prefix_around_covers a k q le same = (le, same ∙ sym (mul-div_cancel (a.0 / 2 ^ (32 - k)) (pow_pos (32 - k))))

pub covered_by_prefix_around : (a : Addr) (k : ℕ) (q : Prefix) → Covers (prefix_around a k) q →
    q.addr.0 / 2 ^ (32 - k) ≡ a.0 / 2 ^ (32 - k)
covered_by_prefix_around a k q h = h.1 ∙ mul-div_cancel (a.0 / 2 ^ (32 - k)) (pow_pos (32 - k))

same_half : (x y : ℕ) → x / 2 ≡ y / 2 → (x % 2 == 1) ≡ (y % 2 == 1) → x ≡ y
same_half x y halves bits =
    elim (x % 2 == 1) as (λ u. (x % 2 == 1) ≡ u → u ≡ (y % 2 == 1) → x ≡ y) [
      | true ↦ λ e f. let a : x % 2 ≡ 1 = eqb-true (x % 2) 1 e in let c : y % 2 ≡ 1 = eqb-true (y % 2) 1 (sym f) in
          omega arith
      | false ↦ λ e f. let a : x % 2 ≢ 1 = eqb-false (x % 2) 1 e in let c : y % 2 ≢ 1 = eqb-false (y % 2) 1 (sym f) in
          omega arith
    ] refl bits

-- one more bit that two addresses share
pub one_more_bit : (a : Addr) (k : ℕ) (q : Prefix) → k < 32 → k < q.len → Covers (prefix_around a k) q →
    bit_at a k ≡ bit_at q.addr k → Covers (prefix_around a (k + 1)) q
one_more_bit a k q short lt h bits =
    let split : 32 - k ≡ (31 - k) + 1 = omega arith in
    let next : 31 - k ≡ 32 - (k + 1) = omega arith in
    let halves : q.addr.0 / 2 ^ (31 - k) / 2 ≡ a.0 / 2 ^ (31 - k) / 2 =
    sym (div_more q.addr.0 (31 - k) 1) ∙ ap (λ n. q.addr.0 / 2 ^ n) (sym split) ∙ covered_by_prefix_around a k q h
    ∙ ap (λ n. a.0 / 2 ^ n) split ∙ div_more a.0 (31 - k) 1 in
    let same : q.addr.0 / 2 ^ (31 - k) ≡ a.0 / 2 ^ (31 - k) =
    same_half (q.addr.0 / 2 ^ (31 - k)) (a.0 / 2 ^ (31 - k)) halves (sym bits) in
    prefix_around_covers a (k + 1) q (omega arith) (subst (λ n. q.addr.0 / 2 ^ n ≡ a.0 / 2 ^ n) next same)

-- the block of its own address and length covers what a prefix covers
pub covers_prefix : (p q : Prefix) → Covers (prefix_around p.addr p.len) q → Covers p q
covers_prefix p q h = (h.0, covered_by_prefix_around p.addr p.len q h)

-- a shorter prefix that contains the address covers each longer one that does
pub lower_lengths : (a : Addr) (n : ℕ) (q : Prefix) → q.len ≤ n → Contains q a → Covers q (prefix_around a n)
lower_lengths a n q le h =
    let cover : Covers (prefix_around a n) (record { addr = a; len = n }) =
    prefix_around_covers a n (record { addr = a; len = n }) (omega arith) refl in
    comparable q (prefix_around a n) (record { addr = a; len = n }) (le, h) cover le
