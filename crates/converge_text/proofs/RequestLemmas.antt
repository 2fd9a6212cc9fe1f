-- Words that are no others.
use Rattle.std.proofs.Common.{◌≡◌, ℕ, ◌<◌, Bool, true, false, List, [], ◌∷◌, ◌++◌, length, codes, Option, Some, None, All, ap, sym, subst, arith}
use Rattle.std.specs.Fmt.{decimal}
use Rattle.decimal.specs.Digits.{IsDigit, decimal_digits}
use Rattle.convergence.specs.declared.order.Order.{Order}
use Rattle.convergence.specs.declared.order.Order.TheVariants.{Fair, Router, Random}
use Rattle.converge_text.specs.Requests.{BeginsNoNumber, BeginsNoOrder, echo_words, most_words, order_words}

-- the first byte of a number is a digit, and that of a name is none
is_no_number : (n b : ℕ) (bs : List ℕ) → 57 < b → decimal n ≡ b ∷ bs → ⊥
is_no_number n b bs high e =
    let digit = subst (λ (text : List ℕ). All IsDigit text) e (decimal_digits n) 0 0 (omega arith) in
    omega (arith, digit)

-- the byte at the head, if there is one
abbrev head : List ℕ → ℕ
head [] = 0
head (b ∷ bs) = b

abbrev first : List (List ℕ) → List ℕ
first [] = []
first (word ∷ words) = word

no_words : (word : List ℕ) (more : List (List ℕ)) → [] ≡ word ∷ more → ⊥
no_words word more e = let none : length {A = List ℕ} [] ≡ length (word ∷ more) = ap length e in omega (arith, none)

pub echo_begins_no_number : (echo : Bool) → BeginsNoNumber (echo_words echo)
echo_begins_no_number true n small more e = is_no_number n 101 _ (omega arith) (sym (ap first e))
echo_begins_no_number false n small more e = no_words (decimal n) more e

-- no order begins with `e`, as `echo` does
order_is_no_echo : (order : Order) (more : List (List ℕ)) → codes "echo" ≡ first (order_words order ++ more) → ⊥
order_is_no_echo Fair more e = let same : head (codes "echo") ≡ head (codes "fair") = ap head e in omega (arith, same)
order_is_no_echo Router more e = let same : head (codes "echo") ≡ head (codes "router") = ap head e in omega (arith, same)
order_is_no_echo (Random seed) more e = let same : head (codes "echo") ≡ head (codes "random") = ap head e in omega (arith, same)

order_is_no_number : (order : Order) (n : ℕ) (more : List (List ℕ)) → decimal n ≡ first (order_words order ++ more) → ⊥
order_is_no_number Fair n more e = is_no_number n 102 _ (omega arith) e
order_is_no_number Router n more e = is_no_number n 114 _ (omega arith) e
order_is_no_number (Random seed) n more e = is_no_number n 114 _ (omega arith) e

order_is_some : (order : Order) (more : List (List ℕ)) → [] ≡ order_words order ++ more → ⊥
order_is_some Fair more e = no_words (codes "fair") more e
order_is_some Router more e = no_words (codes "router") more e
order_is_some (Random seed) more e = no_words (codes "random") (decimal seed ∷ more) e

pub rest_begins_no_order : (most : Option ℕ) (echo : Bool) → BeginsNoOrder (most_words most ++ echo_words echo)
rest_begins_no_order None true order more e = order_is_no_echo order more (ap first e)
rest_begins_no_order None false order more e = order_is_some order more e
rest_begins_no_order (Some n) echo order more e = order_is_no_number order n more (ap first e)

pub same_echo : (a b : Bool) → ◌≡◌ {A = Option Bool} (Some a) (Some b) → a ≡ b
same_echo a b e = cc
