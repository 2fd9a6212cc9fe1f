-- The bytes of a buffer, after a step of its start or a write behind its end.
use Rattle.std.proofs.Common.{◌≡◌, ℕ, ◌+◌, ◌-◌, ◌≤◌, List, ◌++◌, length, take, drop, slice_range, refl, sym, ap, ◌∙◌, arith}
use Rattle.std.proofs.lemmas.List.{take_at, drop_at, take-take, take-append-le, drop-append-le, drop-take, drop-drop, length-take-le, length-drop, length-append, append-nil}
use borrow.Rule.Slice.PartMut.{put_mid, post_of}
use lib.Seq.{take-add}

-- as many bytes are there
long : (xs ys : List ℕ) (end k n : ℕ) → end ≤ length xs → n ≤ length ys → end + n ≤ length (put_mid end k xs ys)
long xs ys end k n within fits =
    omega (
      arith,
      length-append (take end xs) (ys ++ post_of end k xs),
      length-append ys (post_of end k xs),
      length-take-le end xs within,
    )

-- the first bytes of those that a vector of n bytes has where these were written over them
shown : (xs ys : List ℕ) (n m : ℕ) → m ≤ n → m ≤ length xs → slice_range (take n (xs ++ ys)) 0 m ≡ slice_range xs 0 m
shown xs ys n m few there =
    let whole : m - 0 ≡ m = omega arith in
    ap (λ j. take j (take n (xs ++ ys))) whole ∙ take-take m n (xs ++ ys) few ∙ take-append-le m xs ys there
    ∙ ap (λ j. take j xs) (sym whole)

-- behind the bytes up to end, n bytes of ys
grown : (xs ys : List ℕ) (start end k n : ℕ) → start ≤ end → end ≤ length xs → n ≤ length ys
    → slice_range (put_mid end k xs ys) start (end + n) ≡ slice_range xs start end ++ take n ys
grown xs ys start end k n ordered within fits =
    let front = length-take-le end xs within in
    let held = drop start (take end xs) in
    let len : length held ≡ end - start = omega (arith, length-drop start (take end xs)) in
    let sum : end + n - start ≡ (end - start) + n = omega arith in
    let parts : end ≡ start + (end - start) = omega arith in
    let same : held ≡ take (end - start) (drop start xs) = ap (λ j. drop start (take j xs)) parts
    ∙ drop-take start (end - start) xs in
    let after = ys ++ post_of end k xs in
    ap (take (end + n - start)) (drop-append-le start (take end xs) after (omega arith))
    ∙ ap (λ j. take j (held ++ after)) sum ∙ take-add (end - start) n (held ++ after)
    ∙ (rw (take_at held after _ len, drop_at held after _ len, take-append-le n ys (post_of end k xs) fits, same) refl)

-- without the first bytes
pub consumed : (xs : List ℕ) (start end count : ℕ) → start + count ≤ end
    → slice_range xs (start + count) end ≡ drop count (slice_range xs start end)
consumed xs start end count inside =
    let parts : end - start ≡ count + (end - (start + count)) = omega arith in
    sym (ap (λ j. drop count (take j (drop start xs))) parts ∙ drop-take count _ (drop start xs)
    ∙ ap (take (end - (start + count))) (drop-drop count start xs))

-- the same in a vector of that many bytes, over which these are written
pub refilled : (xs ys old : List ℕ) (len held k n : ℕ) → held ≤ length xs → n ≤ length ys → held + n ≤ len
    → slice_range (take len (put_mid held k xs ys ++ drop (length (put_mid held k xs ys)) old)) 0 (held + n)
    ≡ slice_range xs 0 held ++ take n ys
refilled xs ys old len held k n within fits room =
    let all = put_mid held k xs ys in
    shown all (drop (length all) old) len (held + n) room (long xs ys held k n within fits)
    ∙ grown xs ys 0 held k n (omega arith) within fits

-- the bytes that were there stay
pub kept : (xs ys old : List ℕ) (len held k : ℕ) → held ≤ length xs → held ≤ len
    → slice_range (take len (put_mid held k xs ys ++ drop (length (put_mid held k xs ys)) old)) 0 held
    ≡ slice_range xs 0 held
kept xs ys old len held k within room =
    let all = put_mid held k xs ys in
    let none : held ≡ held + 0 = omega arith in
    ap (slice_range (take len (all ++ drop (length all) old)) 0) none
    ∙ refilled xs ys old len held k 0 within (omega arith) (omega arith) ∙ append-nil _

-- cut in two
pub cut : (xs : List ℕ) (start mid end : ℕ) → start ≤ mid → mid ≤ end →
    slice_range xs start end ≡ slice_range xs start mid ++ slice_range xs mid end
cut xs start mid end low high =
    let sum : end - start ≡ (mid - start) + (end - mid) = omega arith in
    let place : start + (mid - start) ≡ mid = omega arith in
    ap (λ n. take n (drop start xs)) sum ∙ take-add (mid - start) (end - mid) (drop start xs)
    ∙ ap (λ t. slice_range xs start mid ++ take (end - mid) t) (drop-drop (mid - start) start xs
    ∙ ap (λ n. drop n xs) place)
