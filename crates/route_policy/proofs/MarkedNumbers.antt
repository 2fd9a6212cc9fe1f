-- Each number that was marked has its marks, and no mark is taken away.
use Rattle.std.proofs.Common.{◌≡◌, ◌⊎◌, inl, inr, ℕ, ◌*◌, ◌/◌, ◌%◌, ◌^◌, ◌<◌, ◌≤◌, Bool, true, false, ◌||◌, ◌&&◌, nat_eq, List, [], ◌∷◌, ◌++◌, length, get_or, set, refl, sym, ap, subst, ◌∙◌, arith, w64, bit_or}
use Rattle.std.specs.Int.{bit_at}
use Rattle.std.proofs.lemmas.List.{get_or-set_same, get_or-set_other, length-set}
use Rattle.std.proofs.lemmas.List.Folds.{list_any-append}
use Rattle.std.proofs.lemmas.Bool.{cases_eq, true≢false}
use Rattle.std.proofs.lemmas.Nat.Bits.{bit_at_set_same, bit_at_or, bit_at-lt}
use Rattle.std.specs.List.{list_any}
use Rattle.path_attr.specs.Path.{holds, numbers_of}
use Rattle.path_attr.specs.declared.path.Segment.{Segment}
use Rattle.route_policy.specs.Marks.{spread, first_place, second_place, with_place, with_mark, with_marks, with_path, is_set, is_marked, AreMarked, AreAllMarked}

first_small : (n : ℕ) → first_place n < 8192
unfolding first_place spread
first_small n = omega arith

second_small : (n : ℕ) → second_place n < 8192
unfolding second_place spread
second_small n = omega arith

-- the word that has one mark more
word_with : List ℕ → ℕ → ℕ
word_with ws p = bit_or (get_or ws (p / 64) 0) (1 * 2 ^ (p % 64) % 2 ^ 64)

place_longer : (ws : List ℕ) (p : ℕ) → 128 ≤ length ws → 128 ≤ length (with_place ws p)
place_longer ws p long = subst (λ l. 128 ≤ l) (sym (length-set ws (p / 64) _)) long

own_place : (ws : List ℕ) (p : ℕ) → 128 ≤ length ws → p < 8192 → is_set p (with_place ws p) ≡ true
own_place ws p long small =
    ap (λ b. nat_eq b 1)
    (ap (λ w. bit_at w (p % 64)) (get_or-set_same ws (p / 64) _ 0 (omega arith))
    ∙ bit_at_set_same w64 (get_or ws (p / 64) 0) (p % 64) (omega arith))

set_one : (b : ℕ) → nat_eq b 1 ≡ true → b ≡ 1
set_one b same = grind (arith, same)

place_stays : (ws : List ℕ) (p q : ℕ) → 128 ≤ length ws → p < 8192 → is_set q ws ≡ true →
    is_set q (with_place ws p) ≡ true
place_stays ws p q long small there = by (cases_eq (q / 64) (p / 64))
  where
    had : bit_at (get_or ws (q / 64) 0) (q % 64) ≡ 1
    had = set_one _ there

    with_one : (b : ℕ) → bit_at b (q % 64) ≡ 1 → bit_at (bit_or b (1 * 2 ^ (p % 64) % 2 ^ 64)) (q % 64) ≡ 1
    with_one b was = omega (
      arith,
      bit_at_or b (1 * 2 ^ (p % 64) % 2 ^ 64) (q % 64),
      bit_at-lt (1 * 2 ^ (p % 64) % 2 ^ 64) (q % 64),
    )

    by : ((q / 64 ≡ p / 64) ⊎ (q / 64 ≡ p / 64 → ⊥)) → is_set q (with_place ws p) ≡ true
    by (inl same) =
        let before : bit_at (get_or ws (p / 64) 0) (q % 64) ≡ 1 =
        subst (λ k. bit_at (get_or ws k 0) (q % 64) ≡ 1) same had in
        let after : bit_at (bit_or (get_or ws (p / 64) 0) (1 * 2 ^ (p % 64) % 2 ^ 64)) (q % 64) ≡ 1 =
        with_one (get_or ws (p / 64) 0) before in
        let word : get_or (with_place ws p) (q / 64) 0 ≡ bit_or (get_or ws (p / 64) 0) (1 * 2 ^ (p % 64) % 2 ^ 64) =
        ap (λ k. get_or (with_place ws p) k 0) same ∙ get_or-set_same ws (p / 64) _ 0 (omega arith) in
        ap (λ b. nat_eq b 1) (ap (λ w. bit_at w (q % 64)) word ∙ after)
    by (inr other) = ap (λ w. nat_eq (bit_at w (q % 64)) 1) (get_or-set_other ws (p / 64) (q / 64) _ 0 other) ∙ there

both : (a b : Bool) → a ≡ true → b ≡ true → (a && b) ≡ true
both a b p q = λ i. p i && q i

first_of_both : (a b : Bool) → (a && b) ≡ true → a ≡ true
first_of_both true b h = refl
first_of_both false b h = h

second_of_both : (a b : Bool) → (a && b) ≡ true → b ≡ true
second_of_both true b h = h
second_of_both false b h = absurd (true≢false (sym h))

longer : (ws : List ℕ) (k : ℕ) → 128 ≤ length ws → 128 ≤ length (with_mark ws k)
longer ws k long = place_longer (with_place ws (first_place k)) (second_place k) (place_longer ws (first_place k) long)

own_mark : (ws : List ℕ) (n : ℕ) → 128 ≤ length ws → is_marked n (with_mark ws n) ≡ true
own_mark ws n long =
    let one = with_place ws (first_place n) in
    let long_one = place_longer ws (first_place n) long in
    both _ _ (place_stays one (second_place n) (first_place n) long_one (second_small n)
    (own_place ws (first_place n) long (first_small n)))
    (own_place one (second_place n) long_one (second_small n))

set_stays : (ws : List ℕ) (k q : ℕ) → 128 ≤ length ws → is_set q ws ≡ true → is_set q (with_mark ws k) ≡ true
set_stays ws k q long there =
    place_stays (with_place ws (first_place k)) (second_place k) q (place_longer ws (first_place k) long)
    (second_small k)
    (place_stays ws (first_place k) q long (first_small k) there)

mark_stays : (ws : List ℕ) (k n : ℕ) → 128 ≤ length ws → is_marked n ws ≡ true → is_marked n (with_mark ws k) ≡ true
mark_stays ws k n long marked =
    both _ _ (set_stays ws k (first_place n) long (first_of_both _ _ marked))
    (set_stays ws k (second_place n) long (second_of_both _ _ marked))

marks_stay : (ws : List ℕ) (ns : List ℕ) (n : ℕ) → 128 ≤ length ws → is_marked n ws ≡ true →
    is_marked n (with_marks ws ns) ≡ true
marks_stay ws [] n long marked = marked
marks_stay ws (k ∷ ns) n long marked = marks_stay (with_mark ws k) ns n (longer ws k long)
    (mark_stays ws k n long marked)

marked_longer : (ws : List ℕ) (ns : List ℕ) → 128 ≤ length ws → 128 ≤ length (with_marks ws ns)
marked_longer ws [] long = long
marked_longer ws (n ∷ ns) long = marked_longer (with_mark ws n) ns (longer ws n long)

-- whatever was marked before, each of the numbers is marked after
numbers_marked : (ws : List ℕ) (ns : List ℕ) (n : ℕ) → 128 ≤ length ws → list_any (nat_eq n) ns ≡ true →
    is_marked n (with_marks ws ns) ≡ true
numbers_marked ws [] n long held = absurd (true≢false (sym held))
numbers_marked ws (k ∷ ns) n long held = by (cases_eq n k) (numbers_marked (with_mark ws k) ns n (longer ws k long))
  where
    by : ((n ≡ k) ⊎ (n ≡ k → ⊥)) → (list_any (nat_eq n) ns ≡ true → is_marked n (with_marks ws (k ∷ ns)) ≡ true) →
        is_marked n (with_marks ws (k ∷ ns)) ≡ true
    by (inl same) rest = marks_stay (with_mark ws k) ns n (longer ws k long)
        (ap (λ m. is_marked m (with_mark ws k)) same ∙ own_mark ws k long)
    by (inr other) rest = rest (grind (arith, held, other))

or_parts : (a b : Bool) → (a || b) ≡ true → (a ≡ true) ⊎ (b ≡ true)
or_parts true b held = inl refl
or_parts false b held = inr held

same_one : (n k : ℕ) → (nat_eq n k || false) ≡ true → n ≡ k
same_one n k held = grind (arith, held)

-- where each number was marked, each is with one more
pub one_more_marked : (ws : List ℕ) (ns : List ℕ) (k : ℕ) → AreAllMarked ns ws →
    AreAllMarked (ns ++ k ∷ []) (with_mark ws k)
one_more_marked ws ns k all =
    (longer ws k all.0, λ n held. by n (or_parts _ _ (sym (list_any-append (nat_eq n) ns (k ∷ [])) ∙ held)))
  where
    by : (n : ℕ) → ((list_any (nat_eq n) ns ≡ true) ⊎ ((nat_eq n k || false) ≡ true)) →
        is_marked n (with_mark ws k) ≡ true
    by n (inl before) = mark_stays ws k n all.0 (all.1 n before)
    by n (inr last) = ap (λ m. is_marked m (with_mark ws k)) (same_one n k last) ∙ own_mark ws k all.0

-- whatever was marked before, all of these are marked after
pub all_marked : (ws : List ℕ) (ns : List ℕ) → 128 ≤ length ws → AreAllMarked ns (with_marks ws ns)
all_marked ws ns long = (marked_longer ws ns long, λ n held. numbers_marked ws ns n long held)

path_stays : (ws : List ℕ) (ss : List Segment) (n : ℕ) → 128 ≤ length ws → is_marked n ws ≡ true →
    is_marked n (with_path ws ss) ≡ true
path_stays ws [] n long marked = marked
path_stays ws (s ∷ ss) n long marked =
    path_stays (with_marks ws (numbers_of s)) ss n (marked_longer ws (numbers_of s) long)
    (marks_stay ws (numbers_of s) n long marked)

-- whatever was marked before, each number of the path is marked after
pub path_marked : (ws : List ℕ) (ss : List Segment) → 128 ≤ length ws → AreMarked ss (with_path ws ss)
path_marked ws [] long n held = absurd (true≢false (sym held))
path_marked ws (s ∷ ss) long n held =
    by (or_parts _ _ held) (path_marked (with_marks ws (numbers_of s)) ss (marked_longer ws (numbers_of s) long) n)
  where
    by : ((list_any (nat_eq n) (numbers_of s) ≡ true) ⊎ (holds n ss ≡ true)) →
        (holds n ss ≡ true → is_marked n (with_path ws (s ∷ ss)) ≡ true) →
        is_marked n (with_path ws (s ∷ ss)) ≡ true
    by (inl here) rest = path_stays (with_marks ws (numbers_of s)) ss n (marked_longer ws (numbers_of s) long)
        (numbers_marked ws (numbers_of s) n long here)
    by (inr there) rest = rest there
