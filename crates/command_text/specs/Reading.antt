-- No public contract cites this file. What a reader of words may answer.
use Rattle.std.specs.Prelude.{◌≡◌, ℕ, Bool, true, List, ◌∷◌, ◌++◌, Option, Some, None, Result, Ok, Err}
use Rattle.net_conf.specs.declared.refusal.Refusal.{Refusal}
use Rattle.net_conf.specs.declared.refusal.Refusal.TheVariants.{Syntax, Memory}

-- the value in its range that is spelled so; nothing where there is none
abbrev pub Reads : {X S : Type 0} → (X → Type 0) → (X → S) → S → Option X → Type 0
Reads IsIn spelling text (Some x) = IsIn x × (text ≡ spelling x)
Reads {X} IsIn spelling text None = (x : X) → IsIn x → text ≡ spelling x → ⊥

-- the same, where making some values takes memory: a fault of syntax where there is none, want of memory only where one
-- of those is spelled so
abbrev pub Makes : {X S : Type 0} → (X → Type 0) → (X → Bool) → (X → S) → S → Result X Refusal → Type 0
Makes IsIn takes_memory spelling text (Ok x) = IsIn x × (text ≡ spelling x)
Makes {X} IsIn takes_memory spelling text (Err Syntax) = (x : X) → IsIn x → text ≡ spelling x → ⊥
Makes {X} IsIn takes_memory spelling text (Err Memory) = (x : X) × IsIn x × (takes_memory x ≡ true)
    × (text ≡ spelling x)
Makes IsIn takes_memory spelling text (Err _) = ⊥

-- the first word begins with the name
abbrev pub BeginsWith : List ℕ → List (List ℕ) → Type 0
BeginsWith name words = (value : List ℕ) × (more : List (List ℕ)) × (words ≡ (name ++ value) ∷ more)
