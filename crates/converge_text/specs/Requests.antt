-- The lines that are no commands, and what they ask for (own).
use Rattle.std.specs.Prelude.{◌≡◌, ℕ, ◌≤◌, ◌<◌, ◌^◌, Bool, true, false, List, [], ◌∷◌, ◌++◌, codes, length, Option, Some, None, IfSome, unwrap_or}
use Rattle.std.specs.Fmt.{decimal}
use Rattle.command_text.specs.Lines.{tokens, most_command_bytes}
use Rattle.convergence.specs.declared.order.Order.{Order}
use Rattle.convergence.specs.declared.order.Order.TheVariants.{Fair, Router, Random}
use Rattle.converge_text.specs.declared.request.Converge.{Converge}
use Rattle.converge_text.specs.declared.request.Request.{Request}
use Rattle.converge_text.specs.declared.request.Request.TheVariants.{Converge as Deliveries, Waiting, Snapshot, Restore}

-- THEIR WORDS

abbrev pub order_words : Order → List (List ℕ)
order_words Fair = codes "fair" ∷ []
order_words Router = codes "router" ∷ []
order_words (Random seed) = codes "random" ∷ decimal seed ∷ []

abbrev pub maybe_order_words : Option Order → List (List ℕ)
maybe_order_words None = []
maybe_order_words (Some order) = order_words order

abbrev pub most_words : Option ℕ → List (List ℕ)
most_words None = []
most_words (Some n) = decimal n ∷ []

abbrev pub echo_words : Bool → List (List ℕ)
echo_words false = []
echo_words true = codes "echo" ∷ []

-- what follows `converge`: an order, a number, and `echo`, each if it is wanted
abbrev pub converge_words : Converge → List (List ℕ)
converge_words asked = maybe_order_words asked.order ++ (most_words asked.most ++ echo_words asked.echo)

abbrev pub words_of : Request → List (List ℕ)
words_of (Deliveries asked) = codes "converge" ∷ converge_words asked
words_of Waiting = codes "waiting" ∷ []
words_of Snapshot = codes "snapshot" ∷ []
words_of (Restore n) = codes "restore" ∷ decimal n ∷ []

-- a number is below 2^32
abbrev pub IsOrder : Order → Type 0
IsOrder Fair = Unit
IsOrder Router = Unit
IsOrder (Random seed) = seed < 2 ^ 32

abbrev pub IsMost : Option ℕ → Type 0
IsMost most = IfSome most (λ n. n < 2 ^ 32)

abbrev pub IsConverge : Converge → Type 0
IsConverge asked = IfSome asked.order IsOrder × IsMost asked.most

abbrev pub IsRequest : Request → Type 0
IsRequest (Deliveries asked) = IsConverge asked
IsRequest Waiting = Unit
IsRequest Snapshot = Unit
IsRequest (Restore n) = n < 2 ^ 32

-- a line that is not too long, and whose words ask for this
abbrev pub Asks : List ℕ → Request → Type 0
Asks line request = (length line ≤ most_command_bytes) × IsRequest request × (tokens line ≡ words_of request)

-- WHAT IS MEANT WHERE A WORD IS MISSING

abbrev pub most_of : Option ℕ → ℕ
most_of most = unwrap_or most 1000000

-- HOW THEY ARE READ. No public clause cites what follows.

-- the words do not begin with these
abbrev pub BeginsWithout : List (List ℕ) → List (List ℕ) → Type 0
BeginsWithout first words = (more : List (List ℕ)) → words ≡ first ++ more → ⊥

abbrev pub BeginsNoOrder : List (List ℕ) → Type 0
BeginsNoOrder words = (order : Order) → BeginsWithout (order_words order) words

abbrev pub BeginsNoNumber : List (List ℕ) → Type 0
BeginsNoNumber words = (n : ℕ) → n < 2 ^ 32 → BeginsWithout (decimal n ∷ []) words
