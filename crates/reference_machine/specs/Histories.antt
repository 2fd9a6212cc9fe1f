-- Histories: the calls that several made of one machine, in the order in which it took them (own).
use Rattle.std.specs.Prelude.{◌≡◌, ℕ, Bool, nat_eq, List, [], ◌∷◌, map, filter}
use Rattle.sim_event.specs.declared.entry.Entry.{Entry}
use Rattle.sim_event.specs.declared.entry.Call.{Call}
use Rattle.reference_machine.specs.Network.{Network}
use Rattle.reference_machine.specs.Machine.{nothing, step}

-- the state after the calls
abbrev pub after_calls : Network → List Entry → Network
after_calls s [] = s
after_calls s (e ∷ es) = after_calls (step s e.event).next es

-- each call was answered as the machine answers it in the state that the calls before it leave
abbrev pub AreAnswered : Network → List Entry → Type 0
AreAnswered s [] = Unit {0}
AreAnswered s (e ∷ es) = (e.reply ≡ (step s e.event).reply) × AreAnswered (step s e.event).next es

-- the history is one that the machine can have had: it began with nothing, and answered each call
abbrev pub IsLegal : List Entry → Type 0
IsLegal h = AreAnswered nothing h

-- the state that a history leaves
abbrev pub state_after : List Entry → Network
state_after h = after_calls nothing h

abbrev pub is_by : ℕ → Entry → Bool
is_by k e = nat_eq e.seat k

abbrev pub call_of : Entry → Call
call_of e = record { event = e.event; reply = e.reply }

-- the calls of one seat, in their order
abbrev pub calls_of : ℕ → List Entry → List Call
calls_of k h = map call_of (filter (is_by k) h)
