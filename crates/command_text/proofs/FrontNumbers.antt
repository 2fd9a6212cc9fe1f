-- AS numbers at the front of a text.
use Rattle.std.proofs.Common.{◌≡◌, ℕ, ◌+◌, ◌<◌, ◌≤◌, ◌^◌, zero, suc, List, [], ◌∷◌, ◌++◌, length, get_or, take, drop, refl, sym, ap, subst, ◌∙◌, append_assoc, length-append, arith}
use Rattle.std.specs.Fmt.{decimal}
use Rattle.std.specs.Str.Parse.{AllDigits, digits_value}
use Rattle.std.proofs.lemmas.Fmt.{decimal-digits_value}
use Rattle.std.proofs.lemmas.List.{take-append-drop, drop_more, length-take-le, get_or-take}
use Rattle.std.proofs.lemmas.Str.Parse.{IsNumeralModel, numerals_by_value, tells_digits}
use Rattle.decimal.specs.Separators.{Lacks}
use Rattle.path_attr.specs.declared.path.Segment.{Segment}
use Rattle.path_attr.specs.declared.path.Segment.TheVariants.{Seq as Sequence}
use Rattle.sim_event.specs.Events.{IsAsNumber}
use Rattle.sim_event.specs.Wording.{segment_text, path_text}
use Rattle.command_text.specs.Lines.{tokens, most_command_bytes}
use Rattle.command_text.specs.Paths.{AreNumbers, IsPart, AreParts, IsAsPath}
use Rattle.command_text.proofs.Tokens.{word_first}
use Rattle.command_text.proofs.Joins.{joins_one, joins_more}
use Rattle.command_text.proofs.Numbers.{from_lacks, numbers_lack, numbers_within}
use Rattle.command_text.proofs.Segments.{sequence_of, segment_lacks, path_of}

numeral : IsNumeralModel (AllDigits 10) (digits_value 10)
numeral = numerals_by_value (AllDigits 10) tells_digits

-- digits with no zero before them, and a byte behind them
pub number_at : (text : List ℕ) (i value : ℕ) → i < length text → (get_or text 0 0 ≡ 48 → ⊥) →
    AllDigits 10 (take i text) → value ≡ digits_value 10 (take i text) → 0 < value → value < 2 ^ 32 →
    text ≡ decimal value ++ (get_or text i 0 ∷ drop (i + 1) text)
number_at text zero value within other digits is some small =
    let none : value ≡ 0 = is in
    absurd (omega (arith, none))
number_at text (suc k) value within other digits is some small =
    let i = suc k in
    let long : 0 < length (take i text) = omega (arith, length-take-le i text (omega arith)) in
    let first : get_or (take i text) 0 0 ≡ get_or text 0 0 = get_or-take i text 0 0 (omega arith) in
    let plain : get_or (take i text) 0 0 ≡ 48 → length (take i text) ≡ 1 = λ zero. absurd (other (sym first ∙ zero)) in
    let spelled : decimal (digits_value 10 (take i text)) ≡ take i text =
    decimal-digits_value numeral (take i text) digits long plain (omega (arith, is)) in
    let front : take i text ≡ decimal value = sym spelled ∙ ap decimal (sym is) in
    sym (take-append-drop i text) ∙ (λ j. front j ++ drop_more text i 0 within j)

-- The numbers so far, and those that the rest begins with, make a front of the text.
abbrev pub FrontGoesOn : List ℕ → List ℕ → List ℕ → Type 0
FrontGoesOn ns rest text = (more front tail : List ℕ) → rest ≡ front ++ tail → AreNumbers more front → (word : List ℕ)
    × AreNumbers (ns ++ more) word × (text ≡ word ++ tail)

pub front_goes_more : (ns ms : List ℕ) (n end : ℕ) (rest after text : List ℕ) → IsAsNumber n → end ≡ 44 →
    rest ≡ decimal n ++ (end ∷ after) → ms ≡ ns ++ (n ∷ []) → FrontGoesOn ns rest text → FrontGoesOn ms after text
front_goes_more ns ms n end rest after text h is e new on more front tail s are =
    let joined : AreNumbers (n ∷ more) (decimal n ++ (44 ∷ front)) =
    joins_more 44 IsAsNumber decimal (from_lacks 1) n more (decimal n) front h refl are in
    let whole : rest ≡ (decimal n ++ (44 ∷ front)) ++ tail = e ∙ (λ j. decimal n ++ (is j ∷ s j))
    ∙ sym (append_assoc (decimal n) (44 ∷ front) tail) in
    let made = on (n ∷ more) (decimal n ++ (44 ∷ front)) tail whole joined in (
      made.0,
      subst (λ all. AreNumbers all made.0)
          (sym (ap (λ all. all ++ more) new ∙ append_assoc ns (n ∷ []) more)) made.1,
      made.2,
    )

pub front_goes_last : (ns ms : List ℕ) (n end : ℕ) (rest after text : List ℕ) → IsAsNumber n → end ≡ 32 →
    rest ≡ decimal n ++ (end ∷ after) → ms ≡ ns ++ (n ∷ []) → FrontGoesOn ns rest text →
    (word : List ℕ) × AreNumbers ms word × (text ≡ word ++ (32 ∷ after))
front_goes_last ns ms n end rest after text h is e new on =
    let made = on (n ∷ []) (decimal n) (32 ∷ after) (e ∙ (λ j. decimal n ++ (is j ∷ after)))
    (joins_one 44 IsAsNumber decimal (from_lacks 1) n (decimal n) h refl) in
    (made.0, subst (λ all. AreNumbers all made.0) (sym new) made.1, made.2)

-- the path of the sequence that was read, and the words after it
pub sequence_first : (text word rest ns : List ℕ) (p : List Segment) → length text ≤ most_command_bytes →
    AreNumbers ns word → text ≡ word ++ (32 ∷ rest) → p ≡ Sequence ns ∷ [] →
    IsAsPath p × (tokens text ≡ path_text p ∷ tokens rest)
sequence_first text word rest ns p short are e is =
    let part = sequence_of word ns are in
    let parts : AreParts (Sequence ns ∷ []) word =
    joins_one 95 IsPart segment_text segment_lacks (Sequence ns) word part.0 part.1 in
    let within : length word ≤ most_command_bytes = omega (arith, ap length e, length-append word (32 ∷ rest)) in
    let made = path_of (Sequence ns ∷ []) word within parts in
    let lacks : Lacks 32 word =
    subst (Lacks 32) (sym are.2) (numbers_lack 32 (λ digit. omega arith) (λ same. omega (arith, same)) ns) in
    let some : 0 < length word = omega (arith, numbers_within ns, are.0, ap length are.2) in
    let whole : tokens text ≡ path_text (Sequence ns ∷ []) ∷ tokens rest = word_first text word rest e lacks some
    ∙ ap (λ w. w ∷ tokens rest) made.1 in
    subst (λ q. IsAsPath q × (tokens text ≡ path_text q ∷ tokens rest)) (sym is) (made.0, whole)
