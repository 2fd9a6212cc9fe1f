-- What the command line may say.
use Rattle.std.specs.Prelude.{◌≡◌, ◌⊎◌, ℕ, List, [], ◌∷◌, codes, Option, Some, None}
use Rattle.machine_scripts.specs.declared.command_line.Kind.{Kind}
use Rattle.machine_scripts.specs.declared.command_line.Kind.TheVariants.{Plain, Sorted, Trie, Room}

-- the name of a machine
abbrev pub name_of : Kind → List ℕ
name_of Plain = codes "plain"
name_of Sorted = codes "sorted"
name_of Trie = codes "trie"
name_of Room = codes "room"

-- the machine that the word names, if it names one
abbrev pub Names : List ℕ → Option Kind → Type 0
Names word (Some kind) = word ≡ name_of kind
Names word None = (kind : Kind) → word ≡ name_of kind → ⊥

-- the program's name and that of a machine, and after them nothing, or `script`
abbrev pub AskFor : List (List ℕ) → Kind → Type 0
AskFor words kind = (program : List ℕ)
    × ((words ≡ program ∷ name_of kind ∷ []) ⊎ (words ≡ program ∷ name_of kind ∷ codes "script" ∷ []))

-- the machine that the words ask for, if they ask for one
abbrev pub IsChoice : List (List ℕ) → Option Kind → Type 0
IsChoice words (Some kind) = AskFor words kind
IsChoice words None = (kind : Kind) → AskFor words kind → ⊥
