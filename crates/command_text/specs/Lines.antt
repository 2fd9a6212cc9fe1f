-- What a line means (own).
use Rattle.std.specs.Prelude.{◌≡◌, ℕ, ◌≤◌, Bool, true, false, ◌==◌, IsTrue, List, [], ◌∷◌, filter, length, nat_lt, Option, Some, None, Result, Ok, Err}
use Rattle.std.specs.List.{slice_split}
use Rattle.net_conf.specs.declared.refusal.Refusal.{Refusal}
use Rattle.net_conf.specs.declared.refusal.Refusal.TheVariants.{Syntax, Memory}
use Rattle.sim_event.specs.declared.event.Event.{Event}
use Rattle.sim_event.specs.declared.event.Event.TheVariants.{Feed as AFeed}
use Rattle.sim_event.specs.declared.event.News.{News}
use Rattle.sim_event.specs.declared.event.News.TheVariants.{Update, Withdraw}
use Rattle.sim_event.specs.Events.{IsEvent}
use Rattle.command_text.specs.Words.{words_of}

-- the words of a line: what stands between its spaces
abbrev pub tokens : List ℕ → List (List ℕ)
tokens line = filter (λ word. nat_lt 0 (length word)) (slice_split (λ b. b == 32) line)

-- no word, or a comment: the first word begins with `#`
abbrev pub are_silent : List (List ℕ) → Bool
are_silent [] = true
are_silent ([] ∷ words) = false
are_silent ((b ∷ bs) ∷ words) = b == 35

-- the most bytes of a line, its end not counted (own)
abbrev pub most_command_bytes : ℕ
most_command_bytes = 4096

-- a line that is not too long, and is blank or a comment
abbrev pub IsSilent : List ℕ → Type 0
IsSilent line = (length line ≤ most_command_bytes) × IsTrue (are_silent (tokens line))

-- a line that is not too long, and whose words spell the event
abbrev pub Means : List ℕ → Event → Type 0
Means line event = (length line ≤ most_command_bytes) × IsEvent event × (tokens line ≡ words_of event)

-- a line that is neither
abbrev pub IsFault : List ℕ → Type 0
IsFault line = (IsSilent line → ⊥) × ((event : Event) → Means line event → ⊥)

-- news of a route, whose path and communities take memory
abbrev pub is_route : News → Bool
is_route (Update r) = true
is_route (Withdraw p) = false

-- the feed of a route: no other event takes memory to make
abbrev pub feeds_route : Event → Bool
feeds_route (AFeed f) = is_route f.news
feeds_route _ = false

-- what reading a line may answer: nothing, its event, a fault of syntax; or, where it feeds a route, want of memory
abbrev pub IsReading : List ℕ → Result (Option Event) Refusal → Type 0
IsReading line (Ok None) = IsSilent line
IsReading line (Ok (Some event)) = Means line event
IsReading line (Err Syntax) = IsFault line
IsReading line (Err Memory) = (event : Event) × Means line event × (feeds_route event ≡ true)
IsReading line (Err _) = ⊥
