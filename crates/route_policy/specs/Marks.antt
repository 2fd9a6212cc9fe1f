-- No public contract cites this file. Marks of AS numbers, 8,192 of them in words of 64. Each number has two, which it
-- may share with others.
use Rattle.std.specs.Prelude.{◌≡◌, ℕ, ◌*◌, ◌/◌, ◌%◌, ◌^◌, Bool, true, ◌&&◌, nat_eq, ◌≤◌, List, length, get_or, slice_set, bit_or}
use Rattle.std.specs.Int.{bit_at}
use Rattle.std.specs.List.{fold, list_any}
use Rattle.path_attr.specs.Path.{holds, numbers_of}
use Rattle.path_attr.specs.declared.path.Segment.{Segment}

-- the number, spread over 32 bits
unfoldable pub spread : ℕ → ℕ
spread n = n * 2654435761 % 4294967296

-- the places of its marks
unfoldable pub first_place : ℕ → ℕ
first_place n = spread n / 524288

unfoldable pub second_place : ℕ → ℕ
second_place n = spread n % 8192

-- the marks, with that at the place
abbrev pub with_place : List ℕ → ℕ → List ℕ
with_place words p = slice_set words (p / 64) (bit_or (get_or words (p / 64) 0) (1 * 2 ^ (p % 64) % 2 ^ 64))

-- the marks, with those of the number
abbrev pub with_mark : List ℕ → ℕ → List ℕ
with_mark words n = with_place (with_place words (first_place n)) (second_place n)

-- the marks, with those of the numbers
abbrev pub with_marks : List ℕ → List ℕ → List ℕ
with_marks words ns = fold with_mark words ns

-- the marks, with those of the numbers of the path
abbrev pub with_path : List ℕ → List Segment → List ℕ
with_path words ss = fold (λ ws s. with_marks ws (numbers_of s)) words ss

-- whether the mark at the place is there
abbrev pub is_set : ℕ → List ℕ → Bool
is_set p words = nat_eq (bit_at (get_or words (p / 64) 0) (p % 64)) 1

-- whether both marks of the number are there
abbrev pub is_marked : ℕ → List ℕ → Bool
is_marked n words = is_set (first_place n) words && is_set (second_place n) words

-- each number of the path has its marks
abbrev pub AreMarked : List Segment → List ℕ → Type 0
AreMarked path words = (n : ℕ) → holds n path ≡ true → is_marked n words ≡ true

-- each of the numbers has its marks, among all of them
abbrev pub AreAllMarked : List ℕ → List ℕ → Type 0
AreAllMarked ns words = (128 ≤ length words) × ((n : ℕ) → list_any (nat_eq n) ns ≡ true → is_marked n words ≡ true)
