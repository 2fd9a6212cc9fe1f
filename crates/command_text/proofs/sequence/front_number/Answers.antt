use Rattle.std.proofs.Common.{◌≡◌, ℕ, ◌<◌, ◌+◌, ◌*◌, ◌-◌, List, ◌∷◌, ◌++◌, length, get_or, take, sym, ◌∙◌, arith}
use Rattle.std.specs.Fmt.{decimal}
use Rattle.std.proofs.lemmas.List.{take_rest}
use Rattle.std.specs.Int.{IsInRange}
use Rattle.std.specs.Str.Parse.{digits_value}
use Rattle.std.proofs.lemmas.Int.Digits.{digits_more, digits_value_more}
use Rattle.std.proofs.lemmas.Str.{digit_value_digit}
use Rattle.command_text.proofs.FrontNumbers.{number_at}
use Rattle.command_text.proofs.sequence.front_number.Goals as goal

-- with one more digit the value is ten times as much and the digit
one_more : (text : List ℕ) (i value : ℕ) → i < length text → IsInRange 48 57 (get_or text i 0) →
    value ≡ digits_value 10 (take i text) → value * 10 + (get_or text i 0 - 48) ≡ digits_value 10 (take (i + 1) text)
one_more text i value within digit is = omega (
  arith,
  digits_value_more 10 text i within,
  digit_value_digit (get_or text i 0) digit,
)

pub loop-i-preserved : goal.loop-i-preserved
loop-i-preserved c = record {
  digits = digits_more 10 _ _ c.loop-i-test.true c.loop-i.invariant.digits c.if-not-is_ascii_digit.ensures.bound;
  value =
      let is = one_more _ _ _ c.loop-i-test.true c.if-not-is_ascii_digit.ensures.cases c.loop-i.invariant.value in
      omega (arith, is, c.in_ok-checked_mul.ensures, c.in_ok-value.ensures);
  small = omega (arith, c.in_ok-value.ensures);
}

pub returns-then-not-is_ascii_digit : goal.returns-then-not-is_ascii_digit
returns-then-not-is_ascii_digit c =
    let text = c.args.text.now in
    let i = c.loop-i.i in
    let made = c.in_ok-new.ensures in
    let found = number_at text i c.loop-i.value c.loop-i-test.true c.if-text-eq48.false c.loop-i.invariant.digits
    c.loop-i.invariant.value made.0 c.loop-i.invariant.small in
    record {
      number = (omega (arith, made.0, made.1), omega (arith, made.1, c.loop-i.invariant.small));
      found = found ∙ (λ j. decimal (sym made.1 j) ++ (get_or text i 0 ∷ sym (take_rest text (i + 1)) j));
    }
