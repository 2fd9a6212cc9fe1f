-- The words of a text that is cut at its first space.
use Rattle.std.proofs.Common.{◌≡◌, ℕ, ◌<◌, ◌==◌, nat_lt, cond, List, [], ◌∷◌, ◌++◌, length, refl, ap, ◌∙◌}
use Rattle.std.specs.List.{filter}
use Rattle.std.proofs.lemmas.List.Splits.{slice_split_at, slice_split_none}
use Rattle.std.proofs.lemmas.Bool.{cond-true, lt-ltb}
use Rattle.decimal.specs.Separators.{Lacks, lacks_test}
use Rattle.command_text.specs.Lines.{tokens}

-- what a part gives to the words: itself, where it is not empty
abbrev kept : List (List ℕ) → List (List ℕ)
kept parts = filter (λ word. nat_lt 0 (length word)) parts

abbrev with_part : List ℕ → List (List ℕ) → List (List ℕ)
with_part word words = cond (nat_lt 0 (length word)) (word ∷ words) words

tokens_cut : (word after : List ℕ) → Lacks 32 word → tokens (word ++ (32 ∷ after)) ≡ with_part word (tokens after)
tokens_cut word after h = ap kept (slice_split_at (λ b. b == 32) word 32 after (lacks_test 32 word h) refl)

tokens_last : (text : List ℕ) → Lacks 32 text → tokens text ≡ with_part text []
tokens_last text h = ap kept (slice_split_none (λ b. b == 32) text (lacks_test 32 text h))

with_some : (word : List ℕ) (words : List (List ℕ)) → 0 < length word → with_part word words ≡ word ∷ words
with_some word words h = cond-true (nat_lt 0 (length word)) (word ∷ words) words (lt-ltb 0 (length word) h)

pub word_first : (text word after : List ℕ) → text ≡ word ++ (32 ∷ after) → Lacks 32 word → 0 < length word →
    tokens text ≡ word ∷ tokens after
word_first text word after e lacks some = ap tokens e ∙ tokens_cut word after lacks ∙ with_some word (tokens after) some

pub word_last : (text : List ℕ) → Lacks 32 text → 0 < length text → tokens text ≡ text ∷ []
word_last text lacks some = tokens_last text lacks ∙ with_some text [] some
