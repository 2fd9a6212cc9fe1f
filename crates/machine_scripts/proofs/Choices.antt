-- Three words, of which the last is `script`.
use Rattle.std.proofs.Common.{◌≡◌, ℕ, List, [], ◌∷◌, length, map, slice_index_or, codes, ap, sym, ◌∙◌, inl, inr, arith, Option, Some, None}
use Rattle.machine_scripts.specs.declared.command_line.Kind.{Kind}
use Rattle.machine_scripts.specs.CommandLine.{Names, name_of, IsChoice}

-- a list of three, by its second and third
pub three_of : {A : Type 0} (f : A → List ℕ) (xs : List A) (x y : A) → length xs ≡ 3 → x ≡ slice_index_or xs 1 x →
    y ≡ slice_index_or xs 2 y → (first : List ℕ) × (map f xs ≡ first ∷ f x ∷ f y ∷ [])
three_of f [] x y three second third = absurd (omega arith)
three_of f (a ∷ []) x y three second third = absurd (omega arith)
three_of f (a ∷ b ∷ []) x y three second third = absurd (omega arith)
three_of f (a ∷ b ∷ c ∷ []) x y three second third = (f a, cc)
three_of f (a ∷ b ∷ c ∷ d ∷ xs) x y three second third = absurd (omega arith)

-- what they ask for is what the second names
pub before_script : (words : List (List ℕ)) (program name last : List ℕ) (kind : Option Kind) →
    words ≡ program ∷ name ∷ last ∷ [] → last ≡ codes "script" → Names name kind → IsChoice words kind
before_script words program name last (Some kind) are ends named = (program, inr (cc))
before_script words program name last None are ends none = λ kind asked.
    none kind (sym (ap (λ (ws : List (List ℕ)). slice_index_or ws 1 []) are)
    ∙ elim asked.1 as (λ _. slice_index_or words 1 [] ≡ name_of kind) [
      | inl alone ↦ ap (λ (ws : List (List ℕ)). slice_index_or ws 1 []) alone
      | inr more ↦ ap (λ (ws : List (List ℕ)). slice_index_or ws 1 []) more
    ])
