-- Each turn takes one more digit into the value, and no front of the text writes more than all of it.
use Rattle.std.proofs.Common.{◌≡◌, ℕ, ◌<◌, ◌+◌, ◌*◌, ◌-◌, ◌^◌, ◌∙◌, List, length, get_or, take, arith, subst, ap}
use Rattle.std.specs.Int.{IsInRange}
use Rattle.std.specs.Str.Parse.{AllDigits, digits_value}
use Rattle.std.proofs.lemmas.Int.Digits.{digits_more, digits_value_more}
use Rattle.std.proofs.lemmas.List.{take_all}
use Rattle.std.proofs.lemmas.Str.{digit_value_digit}
use Rattle.std.proofs.lemmas.Str.Parse.{digit_at, digits_value-take-le}
use Rattle.decimal.proofs.value_of.Goals as goal

-- with one more digit the value is ten times as much and the digit
one_more : (text : List ℕ) (i value : ℕ) → i < length text → IsInRange 48 57 (get_or text i 0) →
    value ≡ digits_value 10 (take i text) → value * 10 + (get_or text i 0 - 48) ≡ digits_value 10 (take (i + 1) text)
one_more text i value within digit is = omega (
  arith,
  digits_value_more 10 text i within,
  digit_value_digit (get_or text i 0) digit,
)

-- where the digits so far write too much, so does the whole text
too_large : (text : List ℕ) (i value : ℕ) → i < length text → IsInRange 48 57 (get_or text i 0) →
    value ≡ digits_value 10 (take i text) → (value * 10 + (get_or text i 0 - 48) < 2 ^ 32 → ⊥) → AllDigits 10 text
    × (digits_value 10 text < 2 ^ 32) → ⊥
too_large text i value within digit is over fits =
    let more : value * 10 + (get_or text i 0 - 48) ≡ digits_value 10 (take (i + 1) text) =
    one_more text i value within digit is in
    over (omega (arith, digits_value-take-le 10 text (i + 1) (omega arith), fits.1))

pub returns-then-not-is_ascii_digit : goal.returns-then-not-is_ascii_digit
returns-then-not-is_ascii_digit c fits =
    let digit : IsInRange 48 57 (get_or c.args.text.now c.loop-byte.byte-index 0) =
    digit_at c.args.text.now c.loop-byte.byte-index fits.0 c.loop-byte-test.true in
    absurd (omega (arith, c.if-not-is_ascii_digit.ensures.cases))

pub returns-in_err-checked_mul : goal.returns-in_err-checked_mul
returns-in_err-checked_mul c =
    rw c.from_residual.ensures
    (too_large _ _ _ c.loop-byte-test.true c.if-not-is_ascii_digit.ensures.cases c.loop-byte.invariant.value
    (λ h. c.in_err-checked_mul.ensures (omega arith)))

pub returns-in_err-value : goal.returns-in_err-value
returns-in_err-value c =
    rw c.from_residual-in_err-value.ensures
    (too_large _ _ _ c.loop-byte-test.true c.if-not-is_ascii_digit.ensures.cases c.loop-byte.invariant.value
    (λ h. c.in_err-value.ensures (omega (arith, c.in_ok-checked_mul.ensures))))

pub loop-byte-preserved : goal.loop-byte-preserved
loop-byte-preserved c = record {
  digits = digits_more 10 _ _ c.loop-byte-test.true c.loop-byte.invariant.digits c.if-not-is_ascii_digit.ensures.bound;
  value =
      let is = one_more _ _ _ c.loop-byte-test.true c.if-not-is_ascii_digit.ensures.cases c.loop-byte.invariant.value in
      omega (arith, is, c.in_ok-checked_mul.ensures, c.in_ok-value.ensures);
  small = omega (arith, c.in_ok-value.ensures);
}

pub returns : goal.returns
returns c =
    let whole : take c.loop-byte.byte-index c.args.text.now ≡ c.args.text.now = take_all _ _ (omega arith) in
    let is : c.loop-byte.value ≡ digits_value 10 c.args.text.now = c.loop-byte.invariant.value
    ∙ ap (digits_value 10) whole in
    ((subst (AllDigits 10) whole c.loop-byte.invariant.digits, omega arith), is)
