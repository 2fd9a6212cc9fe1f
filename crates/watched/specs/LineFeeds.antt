-- No public contract cites this file. Where the first line feed stands.
use Rattle.std.proofs.Common.{◌≡◌, ℕ, ◌+◌, ◌<◌, ◌≤◌, Bool, false, cond, not, zero-add, eqb, ltb, ⊎_elim, List, [], ◌∷◌, ◌++◌, length, take, drop, get_or, position, Option, Some, None, All, sym, ap, ◌∙◌, arith}
use Rattle.std.specs.List.{position_or_len}
use Rattle.std.proofs.lemmas.Bool.{cases_Bool, cond-false, cond-true, lt-ltb, le-ltb, eqb-true, ltb-true, ltb-false}
use Rattle.std.proofs.lemmas.List.{take-append-drop, drop_more, length-take-le, length-append, get_or-take}
use Rattle.std.proofs.lemmas.List.Elements.{All-from_get_or, All-append, All-tail}
use Rattle.std.proofs.lemmas.List.Sums.{fails_before_first, passes_at_first, position_or_len_is}
use Rattle.std.proofs.lemmas.Option.{cond_some}

abbrev pub is_line_feed : ℕ → Bool
is_line_feed b = eqb b 10

-- no line feed among the bytes
abbrev pub Whole : List ℕ → Type 0
Whole bytes = All (λ b. eqb b 10 ≡ false) bytes

-- the first line feed is at n
pub cut_at : (bytes : List ℕ) (n : ℕ) → position is_line_feed bytes ≡ Some n → (n < length bytes) × Whole (take n bytes)
    × (bytes ≡ take n bytes ++ 10 ∷ drop (n + 1) bytes)
cut_at bytes n is =
    let p = position_or_len is_line_feed bytes in
    let found = cond_some (ltb p (length bytes)) p n is in
    let inside : p < length bytes = ltb-true p (length bytes) found.0 in
    let same : p ≡ n = found.1 in
    let within : n < length bytes = omega arith in
    let feed : get_or bytes n 0 ≡ 10 = eqb-true (get_or bytes n 0) 10 (ap (λ i. eqb (get_or bytes i 0) 10) (sym same)
    ∙ passes_at_first is_line_feed bytes 0 inside) in
    let before : (i : ℕ) → i < length (take n bytes) → eqb (get_or (take n bytes) i 0) 10 ≡ false = λ i l.
    let low : i < n = omega (arith, length-take-le n bytes (omega arith)) in
    ap (λ b. eqb b 10) (get_or-take n bytes i 0 low) ∙ fails_before_first is_line_feed bytes i 0 (omega arith) in (
      within,
      All-from_get_or (λ b. eqb b 10 ≡ false) (take n bytes) 0 before,
      sym (take-append-drop n bytes) ∙ ap (λ t. take n bytes ++ t) (drop_more bytes n 0 within
          ∙ ap (λ b. b ∷ drop (n + 1) bytes) feed),
    )

some_none : (n : ℕ) → ◌≡◌ {A = Option ℕ} (Some n) None → ⊥
some_none n e = cc

-- there is no line feed
pub no_cut : (bytes : List ℕ) → position is_line_feed bytes ≡ None → Whole bytes
no_cut bytes is =
    let p = position_or_len is_line_feed bytes in
    let end : length bytes ≤ p = ⊎_elim
    (λ t. absurd (some_none p (sym (ap (λ b. cond b (Some p) None) t) ∙ is)))
    (λ f. ltb-false p (length bytes) f)
    (cases_Bool (ltb p (length bytes))) in
    All-from_get_or (λ b. eqb b 10 ≡ false) bytes 0 (λ i l. fails_before_first is_line_feed bytes i 0 (omega arith))

-- bytes with no line feed before others
pub position_or_len_after : (front back : List ℕ) → Whole front → position_or_len is_line_feed (front ++ back)
    ≡ length front + position_or_len is_line_feed back
position_or_len_after [] back whole = sym (zero-add (position_or_len is_line_feed back))
position_or_len_after (b ∷ more) back whole =
    let other : eqb b 10 ≡ false = whole 0 0 (omega arith) in
    let rest = position_or_len_after more back (All-tail (λ b. eqb b 10 ≡ false) b more whole) in
    ap (λ t. cond (not t) (1 + position_or_len is_line_feed (more ++ back)) 0) other ∙ omega arith

pub position_none : (bytes : List ℕ) → Whole bytes → position is_line_feed bytes ≡ None
position_none bytes whole =
    let p = position_or_len is_line_feed bytes in
    let last : p ≡ length bytes = position_or_len_is is_line_feed bytes (length bytes) 0 (omega arith)
    (λ k l. whole k 0 l) (λ l. absurd (omega arith)) in
    cond-false (ltb p (length bytes)) (Some p) None (le-ltb p (length bytes) (omega arith))

-- the first line feed stands among the bytes behind
pub position_after : (front back : List ℕ) (n : ℕ) → Whole front → position is_line_feed back ≡ Some n →
    position is_line_feed (front ++ back) ≡ Some (length front + n)
position_after front back n whole is =
    let q = position_or_len is_line_feed back in
    let p = position_or_len is_line_feed (front ++ back) in
    let found = cond_some (ltb q (length back)) q n is in
    let inside : q < length back = ltb-true q (length back) found.0 in
    let sum : p ≡ length front + q = position_or_len_after front back whole in
    cond-true (ltb p (length (front ++ back))) (Some p) None
    (lt-ltb p (length (front ++ back)) (omega (arith, length-append front back)))
    ∙ ap Some (sum ∙ ap (λ i. length front + i) found.1)

-- there is none among them either
pub position_nowhere : (front back : List ℕ) → Whole front → position is_line_feed back ≡ None →
    position is_line_feed (front ++ back) ≡ None
position_nowhere front back whole is =
    position_none (front ++ back) (All-append (λ b. eqb b 10 ≡ false) front back whole (no_cut back is))
