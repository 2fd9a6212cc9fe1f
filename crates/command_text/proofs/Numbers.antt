-- Texts of numbers that are joined by commas.
use Rattle.std.proofs.Common.{◌≡◌, ◌≢◌, ℕ, ◌+◌, ◌<◌, ◌≤◌, ◌^◌, List, [], ◌∷◌, ◌++◌, map, length, sym, ap, subst, ◌∙◌, arith, length-append}
use Rattle.std.specs.Fmt.{decimal}
use Rattle.std.specs.List.{All, AllByRecursion, join_with_byte}
use Rattle.std.proofs.lemmas.List.Elements.{All-nil, All-cons, All-append}
use Rattle.decimal.specs.Digits.{IsDigit, decimal_some, decimal_exact}
use Rattle.decimal.specs.Separators.{Lacks, decimal_lacks}
use Rattle.path_attr.specs.Path.{IsAscending}
use Rattle.sim_event.specs.Wording.{numbers_text}
use Rattle.command_text.specs.Joined.{HasOne}
use Rattle.command_text.specs.Ascending.{IsFrom, AreFrom, HasFrom, HasAscending}
use Rattle.command_text.proofs.Joins.{joins_first, joins_one, joins_more, joins_same, has_first, has_after, has_more, has_last, has_one, GoesOn, goes_more, goes_last}

-- numbers below 2^32
pub small_exact : (m n : ℕ) → m < 2 ^ 32 → n < 2 ^ 32 → decimal m ≡ decimal n → m ≡ n
small_exact m n h g e = decimal_exact m n (omega (arith, h)) (omega (arith, g)) e

pub from_lacks : (least n : ℕ) → IsFrom least n → Lacks 44 (decimal n)
from_lacks least n h = decimal_lacks 44 (λ digit. omega arith) n

pub numbers_first : (least : ℕ) (text first after : List ℕ) → text ≡ first ++ (44 ∷ after) → Lacks 44 first →
    HasFrom least text → HasOne (IsFrom least) decimal first
numbers_first least = has_first 44 (IsFrom least) decimal (from_lacks least)

pub numbers_after : (least : ℕ) (text first after : List ℕ) → text ≡ first ++ (44 ∷ after) → Lacks 44 first →
    HasFrom least text → HasFrom least after
numbers_after least = has_after 44 (IsFrom least) decimal (from_lacks least)

pub numbers_more : (least : ℕ) (text first after : List ℕ) → text ≡ first ++ (44 ∷ after) →
    HasOne (IsFrom least) decimal first → HasFrom least after → HasFrom least text
numbers_more least = has_more 44 (IsFrom least) decimal (from_lacks least)

pub numbers_last : (least : ℕ) (text : List ℕ) → Lacks 44 text → HasFrom least text → HasOne (IsFrom least) decimal text
numbers_last least = has_last 44 (IsFrom least) decimal (from_lacks least)

pub numbers_one : (least : ℕ) (text : List ℕ) → HasOne (IsFrom least) decimal text → HasFrom least text
numbers_one least = has_one 44 (IsFrom least) decimal (from_lacks least)

pub numbers_exact : (least : ℕ) (ms ns : List ℕ) (text : List ℕ) → AreFrom least ms text →
    AreFrom least ns text → ms ≡ ns
numbers_exact least = joins_same 44 (IsFrom least) decimal (from_lacks least) (λ m n h g. small_exact m n h.1 g.1)

-- the numbers so far, and those of the rest
abbrev pub NumbersGoOn : ℕ → List ℕ → List ℕ → List ℕ → Type 0
NumbersGoOn least ns rest text = GoesOn 44 (IsFrom least) decimal ns rest text

pub numbers_go_more : (least : ℕ) (ns : List ℕ) (n : ℕ) (rest first after text : List ℕ) →
    rest ≡ first ++ (44 ∷ after) → IsFrom least n → first ≡ decimal n → NumbersGoOn least ns rest text →
    NumbersGoOn least (ns ++ (n ∷ [])) after text
numbers_go_more least = goes_more 44 (IsFrom least) decimal (from_lacks least)

pub numbers_go_last : (least : ℕ) (ns : List ℕ) (n : ℕ) (rest text : List ℕ) → IsFrom least n → rest ≡ decimal n →
    NumbersGoOn least ns rest text → AreFrom least (ns ++ (n ∷ [])) text
numbers_go_last least = goes_last 44 (IsFrom least) decimal (from_lacks least)

-- ascending numbers are not below their first one
from_less : (low least : ℕ) (ns : List ℕ) → low ≤ least → AllByRecursion (IsFrom least) ns →
    AllByRecursion (IsFrom low) ns
from_less low least [] le h = tt
from_less low least (n ∷ ns) le h = ((omega (arith, h.0.0), h.0.1), from_less low least ns le h.1)

from_above : (least n : ℕ) (ns : List ℕ) → IsAscending (n ∷ ns) → AllByRecursion (IsFrom least) ns →
    AllByRecursion (IsFrom (n + 1)) ns
from_above least n [] up h = tt
from_above least n (m ∷ ms) up h =
    ((omega (arith, up.0), h.0.1), from_less (n + 1) (m + 1) ms (omega (arith, up.0)) (from_above least m ms up.1 h.1))

ascending_tail : (n : ℕ) (ns : List ℕ) → IsAscending (n ∷ ns) → IsAscending ns
ascending_tail n [] up = tt
ascending_tail n (m ∷ ms) up = up.1

ascending_front : (n : ℕ) (ns : List ℕ) → AllByRecursion (IsFrom (n + 1)) ns → IsAscending ns → IsAscending (n ∷ ns)
ascending_front n [] h up = tt
ascending_front n (m ∷ ms) h up = (omega (arith, h.0.0), up)

-- ascending numbers, the first one and the others
pub ascending_first : (least : ℕ) (text first after : List ℕ) → text ≡ first ++ (44 ∷ after) → Lacks 44 first →
    HasAscending least text →
    (n : ℕ) × IsFrom least n × (first ≡ decimal n) × HasAscending (n + 1) after
ascending_first least text first after e lacks has =
    let next = joins_first 44 (IsFrom least) decimal (from_lacks least) has.0 first after lacks
    (subst (AreFrom least has.0) e has.1) in
    let up : IsAscending (next.0 ∷ next.1) = subst IsAscending next.2 has.2 in (
      next.0,
      next.3,
      next.4,
      (
        next.1,
        (next.5.0, from_above least next.0 next.1 up next.5.1, next.5.2),
        ascending_tail next.0 next.1 up,
      ),
    )

pub ascending_after : (least n next : ℕ) (text first after : List ℕ) → next ≡ n + 1 → text ≡ first ++ (44 ∷ after) →
    Lacks 44 first → IsFrom least n → first ≡ decimal n → HasAscending least text → HasAscending next after
ascending_after least n next text first after is e lacks h s has =
    let parts = ascending_first least text first after e lacks has in
    let same : parts.0 ≡ n = small_exact parts.0 n parts.1.1 h.1 (sym parts.2 ∙ s) in
    subst (λ k. HasAscending k after) (ap (λ k. k + 1) same ∙ sym is) parts.3

pub ascending_more : (least n next : ℕ) (text first after : List ℕ) → next ≡ n + 1 → text ≡ first ++ (44 ∷ after) →
    IsFrom least n → first ≡ decimal n → HasAscending next after → HasAscending least text
ascending_more least n next text first after is e h s has =
    let above : AllByRecursion (IsFrom (n + 1)) has.0 = subst (λ k. AllByRecursion (IsFrom k) has.0) is has.1.1 in
    let others : AreFrom least has.0 after = (
      has.1.0,
      from_less least (n + 1) has.0 (omega (arith, h.0)) above,
      has.1.2,
    ) in
    let joined = joins_more 44 (IsFrom least) decimal (from_lacks least) n has.0 first after h s others in
    (n ∷ has.0, subst (AreFrom least (n ∷ has.0)) (sym e) joined, ascending_front n has.0 above has.2)

pub ascending_last : (least : ℕ) (text : List ℕ) → Lacks 44 text → HasAscending least text →
    HasOne (IsFrom least) decimal text
ascending_last least text lacks has = numbers_last least text lacks (has.0, has.1)

pub ascending_one : (least : ℕ) (text : List ℕ) → HasOne (IsFrom least) decimal text → HasAscending least text
ascending_one least text one =
    (one.0 ∷ [], joins_one 44 (IsFrom least) decimal (from_lacks least) one.0 text one.1 one.2, tt)

-- ascending numbers are numbers
pub ascending_numbers : (least : ℕ) (text : List ℕ) → HasAscending least text → HasFrom least text
ascending_numbers least text has = (has.0, has.1)

-- so what such a text spells is ascending
pub ascending_of : (least : ℕ) (ns text : List ℕ) → AreFrom least ns text → HasAscending least text → IsAscending ns
ascending_of least ns text are has = subst IsAscending (numbers_exact least has.0 ns text has.1 are) has.2

-- bytes of joined texts
join_all : (P : ℕ → Type 0) (byte : ℕ) → P byte → {X : Type 0} (spelling : X → List ℕ) →
    ((x : X) → All P (spelling x)) → (xs : List X) → All P (join_with_byte byte (map spelling xs))
join_all P byte h spelling each [] = All-nil P
join_all P byte h spelling each (x ∷ []) = each x
join_all P byte h spelling each (x ∷ y ∷ ys) =
    All-append P (spelling x) _ (each x) (All-cons P byte _ h (join_all P byte h spelling each (y ∷ ys)))

-- a byte that is neither a digit nor a comma stands in no joined numbers
pub numbers_lack : (byte : ℕ) → (IsDigit byte → ⊥) → 44 ≢ byte → (ns : List ℕ) → Lacks byte (numbers_text ns)
numbers_lack byte other ne ns = join_all (λ b. b ≢ byte) 44 ne decimal (decimal_lacks byte other) ns

-- numbers are no more than the bytes of their text
pub numbers_within : (ns : List ℕ) → length ns ≤ length (numbers_text ns)
numbers_within [] = omega arith
numbers_within (n ∷ []) = omega (arith, decimal_some n)
numbers_within (n ∷ m ∷ ms) = omega (
  arith,
  decimal_some n,
  numbers_within (m ∷ ms),
  length-append (decimal n) (44 ∷ numbers_text (m ∷ ms)),
)
