-- The numbers of seats, one more at a time.
use Rattle.std.proofs.lemmas.Bool.Decides.{nat_tests}
use Rattle.std.proofs.Common.{◌≡◌, ℕ, ◌+◌, ◌<◌, Bool, true, false, List, refl, subst, arith}
use Rattle.std.specs.Prelude.{nat_lt}
use Rattle.room.specs.Books.{SeatBook}
use Rattle.room.specs.Closing.{times}

-- each number up to n is there once
pub once_more : (n : ℕ) (seats : List SeatBook) → ((k : ℕ) → k < n → times k seats ≡ 1) → times n seats ≡ 1 → (k : ℕ) →
    k < n + 1 → times k seats ≡ 1
once_more n seats before here k below = by (nat_lt k n) refl
  where
    by : (b : Bool) → nat_lt k n ≡ b → times k seats ≡ 1
    by true is = before k (grind (arith, nat_tests))
    by false is = let same : n ≡ k = grind (arith, nat_tests) in subst (λ j. times j seats ≡ 1) same here
