-- A line means at most one event.
use Rattle.std.specs.Prelude.{◌≡◌, ℕ, List}
use Rattle.sim_event.specs.declared.event.Event.{Event}
use Rattle.sim_event.specs.Events.{IsEvent}
use Rattle.command_text.specs.Words.{words_of}
use Rattle.command_text.specs.Lines.{Means}

-- no two events are spelled by the same words
abbrev pub WordsTell : Type 0
WordsTell = (e f : Event) → IsEvent e → IsEvent f → words_of e ≡ words_of f → e ≡ f

-- so a line means one event or none
abbrev pub OneMeaning : Type 0
OneMeaning = (line : List ℕ) (e f : Event) → Means line e → Means line f → e ≡ f
